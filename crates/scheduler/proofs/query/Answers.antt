use Rattle.std.proofs.Common.{◌≡◌, ◌<◌, List, [], ◌++◌, length, map, drop, Err, sym, refl, ap, subst, ◌∙◌, arith, rules}
use Rattle.std.proofs.lemmas.Result.{err_from_is_err_and}
use Rattle.interfaces.specs.Cells.{cell_count, number_of}
use Rattle.past.specs.Afresh.{Outcome}
use Rattle.view.specs.View.{View}
use Rattle.parts.specs.declared.Parts.{Parts}
use Rattle.parts.specs.Shown.{view_of}
use Rattle.moves.specs.declared.answer.Ran.{Ran}
use Rattle.moves.specs.Paths.{path_cells}
use Rattle.scheduler.specs.Settling.{Settles}
use Rattle.scheduler.specs.Promise.{Setting, Comes, Answered}
use Rattle.scheduler.proofs.Codes.{discrete}
use Rattle.scheduler.proofs.Stepping.{settled_read}
use Rattle.scheduler.proofs.Queries.{refuses, gives, faults, settled_as, few_cells}
use Rattle.scheduler.proofs.query.Goals as goal
use Rattle.scheduler.proofs.query.Goals.{in-Err, in_default}
use Rattle.scheduler.proofs.query.Given as given

abbrev view : (g : given.Over) → Parts g.row.S.Denot g.row.L.Denot g.row.R.Denot → View g.row.V.Denot
view g e = view_of g.V.Value.canon g.S.Store.shows g.S.Store.locked g.L.Language.means g.R.Rebuilder.traces e

pub returns-in_err-check_lent : goal.returns-in_err-check_lent
returns-in_err-check_lent g c =
    let q = err_from_is_err_and c.from_residual.result c.from_residual.ensures.1 in
    let k = c.in_err-check_lent.ensures in
    subst (Comes g.V.Value.canon g.V.Value.blank (g.S.Store.locked c.args.parts.now.store) g.L.Language.stands g.R.Rebuilder.depth
    (record {
      cell = number_of c.args.cell;
      lent = record { report = length c.args.report.now; chain = length c.args.chain.now; work = length c.args.work.now };
      parts_before = c.args.parts.now;
      parts_after = c.args.parts.now;
      view_before = view g c.args.parts.now;
      view_after = view g c.args.parts.now;
      report_before = c.args.report.now;
      report_after = c.args.report.now;
      chain_before = c.args.chain.now;
      chain_after = c.args.chain.now;
      work_before = c.args.work.now;
      work_after = c.args.work.now;
    })
    ) (sym (q.1 ∙ ap Err q.2))
    (refuses g.V.Value.canon g.V.Value.blank (g.S.Store.locked c.args.parts.now.store) g.L.Language.stands g.R.Rebuilder.depth (discrete g.row.V.coded)
    (record {
      cell = number_of c.args.cell;
      lent = record { report = length c.args.report.now; chain = length c.args.chain.now; work = length c.args.work.now };
      parts_before = c.args.parts.now;
      parts_after = c.args.parts.now;
      view_before = view g c.args.parts.now;
      view_after = view g c.args.parts.now;
      report_before = c.args.report.now;
      report_after = c.args.report.now;
      chain_before = c.args.chain.now;
      chain_after = c.args.chain.now;
      work_before = c.args.work.now;
      work_after = c.args.work.now;
    })
    (omega (arith, c.number.ensures.value, c.number.ensures.bound)) c.in_err-check_lent.field-0.0 k.1 k.0 refl refl refl refl refl)

pub returns-then-not-in_doubt : goal.returns-then-not-in_doubt
returns-then-not-in_doubt g c = gives g.V.Value.canon g.V.Value.blank (g.S.Store.locked c.args.parts.now.store) g.L.Language.stands g.R.Rebuilder.depth (discrete g.row.V.coded)
    (record {
      cell = number_of c.args.cell;
      lent = record { report = length c.args.report.now; chain = length c.args.chain.now; work = length c.args.work.now };
      parts_before = c.args.parts.now;
      parts_after = c.args.parts.now;
      view_before = view g c.args.parts.now;
      view_after = view g c.args.parts.now;
      report_before = c.args.report.now;
      report_after = c.args.report.now;
      chain_before = c.args.chain.now;
      chain_after = c.args.chain.now;
      work_before = c.args.work.now;
      work_after = c.args.work.now;
    })
    (omega (arith, c.number.ensures.value, c.number.ensures.bound)) c.in_ok-check_lent.ensures (c.in_ok-check_lent.ensures).report 0
    c.read_stored.result refl
    (settled_read g.V.Value.blank g.R.Rebuilder.depth (discrete g.row.V.coded) (view g c.args.parts.now) [] (number_of c.args.cell) (g.V.Value.canon c.read_stored.result) 0 c.args.report.now c.read_stored.ensures (c.if-not-in_doubt.ensures.no refl))

pub returns : goal.returns
returns g c =
    let asked : List Ran → Setting (Parts g.row.S.Denot g.row.L.Denot g.row.R.Denot) g.row.V.Denot = λ list. record {
      cell = number_of c.args.cell;
      lent = record { report = length c.args.report.now; chain = length c.args.chain.now; work = length c.args.work.now };
      parts_before = c.args.parts.now;
      parts_after = c.settle-outcome.new.parts;
      view_before = view g c.args.parts.now;
      view_after = view g c.settle-outcome.new.parts;
      report_before = c.args.report.now;
      report_after = list;
      chain_before = c.args.chain.now;
      chain_after = c.match-outcome.chain;
      work_before = c.args.work.now;
      work_after = c.settle-outcome.new.work;
    } in
    let small : number_of c.args.cell < cell_count = omega (arith, c.number.ensures.value, c.number.ensures.bound) in
    let settled : (o : Outcome g.row.V.Denot) (list : List Ran) → list ≡ c.settle-outcome.new.report.list.now
    → Settles g.V.Value.blank g.R.Rebuilder.depth (view g c.args.parts.now) (view g c.settle-outcome.new.parts) (map number_of (path_cells c.new-path.result)) (number_of c.args.cell)
    c.new-report.result.ran c.new-report.result.list.now c.settle-outcome.new.report.ran c.settle-outcome.new.report.list.now o
    → Settles g.V.Value.blank g.R.Rebuilder.depth (view g c.args.parts.now) (view g c.settle-outcome.new.parts) [] (number_of c.args.cell) 0 c.args.report.now c.len.result list o
    = λ o list e s. settled_as g.V.Value.blank g.R.Rebuilder.depth (view g c.args.parts.now) (view g c.settle-outcome.new.parts) (number_of c.args.cell) o
    (ap (map number_of) c.new-path.ensures) c.new-report.ensures.count c.new-report.ensures.list c.len.ensures e s in
    let came : (list : List Ran) → list ≡ c.settle-outcome.new.report.list.now → Answered g.V.Value.canon g.V.Value.blank (g.S.Store.locked c.args.parts.now.store) g.L.Language.stands g.R.Rebuilder.depth (asked list) (record { outcome = c.match-outcome.outcome; runs = c.len.result })
    = λ list e. elim c.match-outcome.branch [
      | in-Err w ↦ subst (λ z. Answered g.V.Value.canon g.V.Value.blank (g.S.Store.locked c.args.parts.now.store) g.L.Language.stands g.R.Rebuilder.depth (asked list) (record { outcome = z; runs = c.len.result })) (sym w.outcome-is)
          (faults g.V.Value.canon g.V.Value.blank (g.S.Store.locked c.args.parts.now.store) g.L.Language.stands g.R.Rebuilder.depth (discrete g.row.V.coded) (asked list) small
          c.in_ok-check_lent.ensures (c.in_ok-check_lent.ensures).report c.len.result
          w.in-Err.fault (path_cells c.settle-outcome.new.path) w.in-Err.ensures.path (omega (arith, w.in-Err.ensures.path, few_cells c.settle-outcome.new.path, (c.in_ok-check_lent.ensures).chain))
          (w.chain-is ∙ ap (λ z. z ++ drop w.in-Err.fault.chain c.args.chain.now) (w.copy_from_slice.ensures.after ∙ w.as_slice.ensures))
          (settled _ list e w.in-Err.ensures.settles))
      | in_default w ↦ subst (λ z. Answered g.V.Value.canon g.V.Value.blank (g.S.Store.locked c.args.parts.now.store) g.L.Language.stands g.R.Rebuilder.depth (asked list) (record { outcome = z; runs = c.len.result })) (sym (w.outcome-is ∙ w.in_default.is))
          (gives g.V.Value.canon g.V.Value.blank (g.S.Store.locked c.args.parts.now.store) g.L.Language.stands g.R.Rebuilder.depth (discrete g.row.V.coded) (asked list) small
          c.in_ok-check_lent.ensures (c.in_ok-check_lent.ensures).report c.len.result w.in_default.field-0 w.chain-is (settled _ list e w.in_default.ensures.settles))
    ] in
    came _ (search rules)
