use Rattle.std.proofs.Common.{sym, ◌∙◌}
use Rattle.std.proofs.lemmas.Bool.{both_ways}
use Rattle.std.proofs.lemmas.Result.{err_from_is_err_and}
use Rattle.interfaces.specs.Cells.{number_of}
use Rattle.engine.specs.Given.{given_of}
use Rattle.engine.proofs.Ways.{gives_to_defined, gives_to_locked, gives_none, gives_alike, gives_new}
use Rattle.engine.proofs.Workbook.give.Goals as goal

pub returns-then-row : goal.returns-then-row
returns-then-row g c =
    gives_to_defined g.V.Value g.S.Store g.L.Language g.R.Rebuilder g.row.V.coded c.args.self.now.parts (number_of c.args.cell) c.get-row.result c.get-row.ensures.row c.get-row.ensures.bound
    (given_of g.V.Value.canon c.args.given) c.if-row.true

pub returns-then-is_locked : goal.returns-then-is_locked
returns-then-is_locked g c =
    gives_to_locked g.V.Value g.S.Store g.L.Language g.R.Rebuilder g.row.V.coded c.args.self.now.parts (number_of c.args.cell) c.get-row.result c.get-row.ensures.row c.get-row.ensures.bound
    c.args.given c.if-row.false c.if-is_locked.ensures

pub returns-in_err-value : goal.returns-in_err-value
returns-in_err-value g c =
    let p = err_from_is_err_and c.from_residual.result c.from_residual.ensures.1 in
    gives_none g.V.Value g.S.Store g.L.Language g.R.Rebuilder g.row.V.coded c.args.self.now.parts (number_of c.args.cell) c.get-row.result c.get-row.ensures.row c.get-row.ensures.bound
    c.args.given c.if-row.false c.if-is_locked.ensures c.from_residual.result p.0 c.in_err-value.field-0.0 c.in_err-value.was p.1 p.2

pub returns-then-is_like : goal.returns-then-is_like
returns-then-is_like g c =
    gives_alike g.V.Value g.S.Store g.L.Language g.R.Rebuilder g.row.V.coded c.args.self.now.parts (number_of c.args.cell) c.get-row.result c.get-row.ensures.row c.get-row.ensures.bound
    c.args.given c.if-row.false c.if-is_locked.ensures c.in_ok-value.value c.in_ok-value.was
    (g.met.V.Value.alike_sound c.in_ok-value.value c.read-before.result (sym c.if-is_like.ensures) ∙ c.read-before.ensures)

pub returns : goal.returns
returns g c =
    gives_new g.V.Value g.S.Store g.L.Language g.R.Rebuilder g.row.V.coded c.args.self.now.parts (number_of c.args.cell) c.get-row.result c.get-row.ensures.row c.get-row.ensures.bound
    c.args.given c.if-row.false c.if-is_locked.ensures c.in_ok-value.value c.in_ok-value.was c.write.new.self c.mark.new.self
    (λ e. both_ways _ (sym c.if-is_like.ensures) (g.met.V.Value.alike_whole c.in_ok-value.value c.read-before.result (e ∙ sym c.read-before.ensures)))
    c.write.ensures.values c.write.ensures.locks c.mark.ensures
