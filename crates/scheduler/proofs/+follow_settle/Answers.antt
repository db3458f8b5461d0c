-- Each way out of the two functions, and round the loop, by what the workbook shows before and after.
use borrow.Rule.Slice.PartMut.{put_mid, post_of}
use Rattle.std.proofs.Common.{◌≡◌, ℕ, ◌+◌, ◌-◌, ◌<◌, ◌≤◌, true, false, List, [], ◌∷◌, ◌++◌, map, length, take, set, Err, sym, refl, ap, ◌∙◌, subst, arith, length-append}
use Rattle.std.proofs.lemmas.List.{map-append, length-map, take_more_set, length-take-le}
use Rattle.std.proofs.lemmas.Slice.{take-put_mid_below}
use Rattle.std.proofs.lemmas.Result.{err_from_is_err_and}
use Rattle.interfaces.specs.Asks.{asked_cells}
use Rattle.interfaces.specs.Cells.{cell_count, ask_limit, number_of}
use Rattle.table.specs.Records.{record_in}
use Rattle.moves.specs.Paths.{path_cells}
use Rattle.scheduler.specs.Outcomes.{outcome_of}
use Rattle.scheduler.specs.Settling.{Settles}
use Rattle.scheduler.proofs.Lengths.{pushed, popped}
use Rattle.scheduler.proofs.Codes.{discrete}
use Rattle.scheduler.proofs.Going as going
use Rattle.scheduler.proofs.Going.{from_none, few_asked}
use Rattle.scheduler.proofs.Stepping as steps
use Rattle.scheduler.proofs.+follow_settle.Invariants.{view}
use Rattle.scheduler.proofs.+follow_settle.Goals as goal

-- a value joins the front of the working list, of which the rest was lent on
placed : {X : Type 0} (xs ys : List X) (n m l k : ℕ) (w : X) → m ≡ n → l ≡ n + 1 → n < ask_limit → ask_limit ≤ length xs → take l (set (put_mid ask_limit k xs ys) m w) ≡ take n xs ++ w ∷ []
placed xs ys n m l k w e f h r =
    let t = length-append (take ask_limit xs) (ys ++ post_of ask_limit k xs) in
    let u = length-take-le ask_limit xs r in
    ap (λ z. take z (set (put_mid ask_limit k xs ys) m w)) f ∙ ap (λ z. take (n + 1) (set (put_mid ask_limit k xs ys) z w)) e
    ∙ take_more_set (put_mid ask_limit k xs ys) n w (omega arith) ∙ ap (λ p. p ++ w ∷ []) (take-put_mid_below ask_limit k xs ys n (omega arith) r)

pub follow-loop-value-init : goal.follow-loop-value-init
follow-loop-value-init g t c = record {
  same_path = refl;
  lent = refl;
  joins = λ after ran' list' o f. from_none g.V.Value.blank g.R.Rebuilder.depth g.V.Value.canon (view g c.args.parts.now) after (map number_of (path_cells c.args.path.now)) (number_of c.args.cell)
      c.new-asked.result c.args.work.now false c.args.report.now.ran c.args.report.now.list.now ran' list' o c.new-asked.ensures f;
}

pub follow-returns-in_err-value-clause-follows : goal.follow-returns-in_err-value-clause-follows
follow-returns-in_err-value-clause-follows g t c =
    let q = err_from_is_err_and c.from_residual.result c.from_residual.ensures.1 in
    let k = going.step_faults g.V.Value.blank g.R.Rebuilder.depth (discrete g.row.V.coded) g.V.Value.canon g.V.Value.alike g.met.V.Value.alike_sound g.met.V.Value.alike_whole g.met.V.Value.steady
    (view g c.loop-value.parts) (path_cells c.loop-value.path) c.args.cell (g.R.Rebuilder.traces c.loop-value.parts.rebuilder (number_of c.args.cell)) c.loop-value.asked c.loop-value.work c.loop-value.running c.loop-value.report
    refl (omega (arith, c.loop-value.auto.work, c.requires)) c.len.result
    c.in_err-value.field-0.0 c.from_residual.result (q.1 ∙ ap Err q.2) c.len.ensures.count c.in_err-value.ensures in
    c.loop-value.invariant.joins (view g c.loop-value.parts) c.loop-value.report.ran c.loop-value.report.list.now _ k

pub follow-returns-in_err-check_ask-in-Ask-clause-follows : goal.follow-returns-in_err-check_ask-in-Ask-clause-follows
follow-returns-in_err-check_ask-in-Ask-clause-follows g t c =
    let q = err_from_is_err_and c.from_residual-in_err-check_ask-in-Ask.result c.from_residual-in_err-check_ask-in-Ask.ensures.1 in
    let k = going.ask_faults g.V.Value.blank g.R.Rebuilder.depth (discrete g.row.V.coded) g.V.Value.canon g.V.Value.alike g.met.V.Value.alike_sound g.met.V.Value.alike_whole g.met.V.Value.steady
    (view g c.loop-value.parts) (path_cells c.loop-value.path) c.args.cell (g.R.Rebuilder.traces c.loop-value.parts.rebuilder (number_of c.args.cell)) c.loop-value.asked c.loop-value.work c.loop-value.running c.loop-value.report
    refl (omega (arith, c.loop-value.auto.work, c.requires)) c.len.result
    c.in-Ask.wanted c.in_ok-value.field-0 c.in_err-check_ask-in-Ask.field-0.0 c.from_residual-in_err-check_ask-in-Ask.result (q.1 ∙ ap Err q.2) c.in-Ask.is c.in_ok-value.ensures c.in_err-check_ask-in-Ask.ensures in
    c.loop-value.invariant.joins (view g c.loop-value.parts) c.loop-value.report.ran c.loop-value.report.list.now _ k

pub follow-returns-in_err-value-in-Ask-clause-follows : goal.follow-returns-in_err-value-in-Ask-clause-follows
follow-returns-in_err-value-in-Ask-clause-follows g t c =
    let q = err_from_is_err_and c.from_residual-in_err-value-in-Ask.result c.from_residual-in_err-value-in-Ask.ensures.1 in
    let s = c.in_err-value-in-Ask.ensures in
    let k = going.below_faults g.V.Value.blank g.R.Rebuilder.depth (discrete g.row.V.coded) g.V.Value.canon g.V.Value.alike g.met.V.Value.alike_sound g.met.V.Value.alike_whole g.met.V.Value.steady
    (view g c.loop-value.parts) (path_cells c.loop-value.path) c.args.cell (g.R.Rebuilder.traces c.loop-value.parts.rebuilder (number_of c.args.cell)) c.loop-value.asked c.loop-value.work c.loop-value.running c.loop-value.report
    refl (omega (arith, c.loop-value.auto.work, c.requires)) c.len.result
    c.in-Ask.wanted c.in_ok-value.field-0 (view g c.settle.new.parts) (path_cells c.settle.new.path) c.settle.new.report c.in_err-value-in-Ask.field-0.0 c.from_residual-in_err-value-in-Ask.result (q.1 ∙ ap Err q.2)
    c.in-Ask.is c.in_ok-value.ensures c.in_ok-check_ask-in-Ask.ensures s.settles in
    c.loop-value.invariant.joins (view g c.settle.new.parts) c.settle.new.report.ran c.settle.new.report.list.now _ k

pub follow-returns-in-Keep-clause-follows : goal.follow-returns-in-Keep-clause-follows
follow-returns-in-Keep-clause-follows g t c =
    c.loop-value.invariant.joins (view g c.end_doubt.new.parts) c.loop-value.report.ran c.loop-value.report.list.now _
    (going.keeps_it g.V.Value.blank g.R.Rebuilder.depth (discrete g.row.V.coded) g.V.Value.canon g.V.Value.alike g.met.V.Value.alike_sound g.met.V.Value.alike_whole g.met.V.Value.steady
    (view g c.loop-value.parts) (path_cells c.loop-value.path) c.args.cell (g.R.Rebuilder.traces c.loop-value.parts.rebuilder (number_of c.args.cell)) c.loop-value.asked c.loop-value.work c.loop-value.running c.loop-value.report
    refl (omega (arith, c.loop-value.auto.work, c.requires)) c.len.result
    c.in-Keep.value c.in_ok-value.field-0 (view g c.end_doubt.new.parts) c.in-Keep.is c.in_ok-value.ensures c.end_doubt.ensures)

pub follow-returns-in-Give-clause-follows : goal.follow-returns-in-Give-clause-follows
follow-returns-in-Give-clause-follows g t c =
    c.loop-value.invariant.joins (view g c.conclude.new.parts) c.conclude.new.report.ran c.conclude.new.report.list.now _
    (going.finishes g.V.Value.blank g.R.Rebuilder.depth (discrete g.row.V.coded) g.V.Value.canon g.V.Value.alike g.met.V.Value.alike_sound g.met.V.Value.alike_whole g.met.V.Value.steady
    (view g c.loop-value.parts) (path_cells c.loop-value.path) c.args.cell (g.R.Rebuilder.traces c.loop-value.parts.rebuilder (number_of c.args.cell)) c.loop-value.asked c.loop-value.work c.loop-value.running c.loop-value.report
    refl (omega (arith, c.loop-value.auto.work, c.requires)) c.len.result
    c.in-Give.value c.in_ok-value.field-0 (view g c.conclude.new.parts) c.conclude.new.report (record_in c.loop-value.parts.table (number_of c.args.cell)).cause
    c.in-Give.is c.in_ok-value.ensures refl c.conclude.ensures.concludes c.conclude.ensures.report)

pub follow-loop-value-preserved-in-Begin : goal.follow-loop-value-preserved-in-Begin
follow-loop-value-preserved-in-Begin g t c = record {
  same_path = c.loop-value.invariant.same_path;
  lent = c.loop-value.invariant.lent;
  joins = λ after ran' list' o f. c.loop-value.invariant.joins after ran' list' o
      (going.begins_anew g.V.Value.blank g.R.Rebuilder.depth (discrete g.row.V.coded) g.V.Value.canon g.V.Value.alike g.met.V.Value.alike_sound g.met.V.Value.alike_whole g.met.V.Value.steady
      (view g c.loop-value.parts) (path_cells c.loop-value.path) c.args.cell (g.R.Rebuilder.traces c.loop-value.parts.rebuilder (number_of c.args.cell)) c.loop-value.asked c.loop-value.work c.loop-value.running c.loop-value.report
      refl (omega (arith, c.loop-value.auto.work, c.requires)) c.len.result
      c.in_ok-value.field-0 after ran' list' o c.in-Begin.is c.in_ok-value.ensures
      (from_none g.V.Value.blank g.R.Rebuilder.depth g.V.Value.canon (view g c.loop-value.parts) after (map number_of (path_cells c.loop-value.path)) (number_of c.args.cell)
      c.new-asked-in-Begin.result c.loop-value.work true c.loop-value.report.ran c.loop-value.report.list.now ran' list' o c.new-asked-in-Begin.ensures f));
}

pub follow-loop-value-preserved : goal.follow-loop-value-preserved
follow-loop-value-preserved g t c =
    let s = c.in_ok-value-in-Ask.ensures in
    let k = c.in_ok-check_ask-in-Ask.ensures in
    let xa = pushed ask_limit (asked_cells c.loop-value.asked) (asked_cells c.push.new.self) c.in-Ask.wanted c.push.ensures k.0 in
    let xw = placed c.loop-value.work c.settle.new.work (length (asked_cells c.loop-value.asked)) c.len-in-Ask.result (length (asked_cells c.push.new.self)) (length c.loop-value.work - ask_limit) c.in_ok-value-in-Ask.value
    c.len-in-Ask.ensures.count (ap length xa ∙ length-append (asked_cells c.loop-value.asked) (c.in-Ask.wanted ∷ [])) k.0 (omega (arith, c.loop-value.auto.work, c.requires)) in
    record {
      same_path = s.path ∙ c.loop-value.invariant.same_path;
      lent = s.lent ∙ c.loop-value.invariant.lent;
      joins = λ after ran' list' o f. c.loop-value.invariant.joins after ran' list' o
          (going.goes_on g.V.Value.blank g.R.Rebuilder.depth (discrete g.row.V.coded) g.V.Value.canon g.V.Value.alike g.met.V.Value.alike_sound g.met.V.Value.alike_whole g.met.V.Value.steady
          (view g c.loop-value.parts) (path_cells c.loop-value.path) c.args.cell (g.R.Rebuilder.traces c.loop-value.parts.rebuilder (number_of c.args.cell)) c.loop-value.asked c.loop-value.work c.loop-value.running c.loop-value.report
          refl (omega (arith, c.loop-value.auto.work, c.requires)) c.len.result
          c.in-Ask.wanted c.in_ok-value.field-0 c.in_ok-value-in-Ask.value (view g c.settle.new.parts) after c.settle.new.report ran' list' o (path_cells c.settle.new.path) (asked_cells c.push.new.self) _
          c.in-Ask.is c.in_ok-value.ensures k s.settles s.path xa xw f);
    }

pub settle-returns-then-not-in_doubt-clause-settles : goal.settle-returns-then-not-in_doubt-clause-settles
settle-returns-then-not-in_doubt-clause-settles g t c =
    steps.settled_read g.V.Value.blank g.R.Rebuilder.depth (discrete g.row.V.coded) (view g c.args.parts.now) (map number_of (path_cells c.args.path.now)) (number_of c.args.cell)
    (g.V.Value.canon c.read_stored.result) c.args.report.now.ran c.args.report.now.list.now c.read_stored.ensures (c.if-not-in_doubt.ensures.no refl)

pub settle-returns-then-len-ge-CELLS-clause-settles : goal.settle-returns-then-len-ge-CELLS-clause-settles
settle-returns-then-len-ge-CELLS-clause-settles g t c =
    steps.too_deep g.V.Value.blank g.R.Rebuilder.depth (discrete g.row.V.coded) (view g c.args.parts.now) (map number_of (path_cells c.args.path.now)) (number_of c.args.cell)
    (view g c.args.parts.now) c.args.report.now.ran c.args.report.now.list.now c.args.report.now.ran c.args.report.now.list.now _
    (omega (arith, length-map (path_cells c.args.path.now) number_of, c.len.ensures.count, c.if-len-ge-CELLS.true)) (c.if-not-in_doubt.ensures.yes tt)

pub settle-returns-in_err-value-clause-settles : goal.settle-returns-in_err-value-clause-settles
settle-returns-in_err-value-clause-settles g t c =
    let q = err_from_is_err_and c.from_residual.result c.from_residual.ensures.1 in
    let s = c.in_err-value.ensures in
    let u = pushed cell_count (path_cells c.args.path.now) (path_cells c.push.new.self) c.args.cell c.push.ensures.cells (omega (arith, c.len.ensures.count, c.if-len-ge-CELLS.false)) in
    subst (λ z. Settles g.V.Value.blank g.R.Rebuilder.depth (view g c.args.parts.now) (view g c.follow.new.parts) (map number_of (path_cells c.args.path.now)) (number_of c.args.cell)
    c.args.report.now.ran c.args.report.now.list.now c.follow.new.report.ran c.follow.new.report.list.now (outcome_of g.V.Value.canon (path_cells c.follow.new.path) z)) (sym (q.1 ∙ ap Err q.2))
    (steps.settled_follow g.V.Value.blank g.R.Rebuilder.depth (discrete g.row.V.coded) (view g c.args.parts.now) (map number_of (path_cells c.args.path.now)) (number_of c.args.cell) (view g c.follow.new.parts) _
    c.args.report.now.ran c.args.report.now.list.now c.follow.new.report.ran c.follow.new.report.list.now _ (c.if-not-in_doubt.ensures.yes tt)
    (ap (map number_of) u ∙ map-append number_of (path_cells c.args.path.now) (c.args.cell ∷ [])) s.follows)

pub settle-returns-clause-path : goal.settle-returns-clause-path
settle-returns-clause-path g t c =
    let u = pushed cell_count (path_cells c.args.path.now) (path_cells c.push.new.self) c.args.cell c.push.ensures.cells (omega (arith, c.len.ensures.count, c.if-len-ge-CELLS.false)) in
    popped (path_cells c.args.path.now) (path_cells c.follow.new.path) (path_cells c.pop.new.self) c.args.cell (c.in_ok-value.ensures.path ∙ u) c.pop.ensures

pub settle-returns-clause-settles : goal.settle-returns-clause-settles
settle-returns-clause-settles g t c =
    let u = pushed cell_count (path_cells c.args.path.now) (path_cells c.push.new.self) c.args.cell c.push.ensures.cells (omega (arith, c.len.ensures.count, c.if-len-ge-CELLS.false)) in
    steps.settled_follow g.V.Value.blank g.R.Rebuilder.depth (discrete g.row.V.coded) (view g c.args.parts.now) (map number_of (path_cells c.args.path.now)) (number_of c.args.cell) (view g c.follow.new.parts) _
    c.args.report.now.ran c.args.report.now.list.now c.follow.new.report.ran c.follow.new.report.list.now _ (c.if-not-in_doubt.ensures.yes tt)
    (ap (map number_of) u ∙ map-append number_of (path_cells c.args.path.now) (c.args.cell ∷ [])) c.in_ok-value.ensures.follows
