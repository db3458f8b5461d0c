use Rattle.std.proofs.Common.{ap, ◌∙◌}
use Rattle.std.proofs.lemmas.Bool.{not-true, not-false}
use Rattle.interfaces.specs.Cells.{number_of}
use Rattle.interfaces.specs.Refusals.{told}
use Rattle.engine.proofs.Ways.{clears_input, clears_locked, clears}
use Rattle.engine.proofs.Workbook.clear.Goals as goal

pub returns-then-not-row : goal.returns-then-not-row
returns-then-not-row g c =
    clears_input g.V.Value g.S.Store g.L.Language g.R.Rebuilder g.row.V.coded c.args.self.now.parts (number_of c.args.cell) c.get-row.result c.get-row.ensures.row c.get-row.ensures.bound (not-true _ c.if-not-row.true)

pub returns-in_err-write : goal.returns-in_err-write
returns-in_err-write g c =
    clears_locked g.V.Value g.S.Store g.L.Language g.R.Rebuilder g.row.V.coded c.args.self.now.parts (number_of c.args.cell) c.get-row.result c.get-row.ensures.row c.get-row.ensures.bound
    _ (told c.from_residual.result) c.write.new.self (not-false _ c.if-not-row.false) c.in_err-write.ensures.answer

pub returns : goal.returns
returns g c =
    clears g.V.Value g.S.Store g.L.Language g.R.Rebuilder g.row.V.coded c.args.self.now.parts (number_of c.args.cell) c.get-row.result c.get-row.ensures.row c.get-row.ensures.bound
    _ c.write.new.self c.remove.new.self c.forget.new.self c.mark.new.self c.change.new.self c.blank_value-blank.result c.blank.result (not-false _ c.if-not-row.false)
    c.in_ok-write.ensures.answer (ap g.V.Value.canon c.blank_value-blank.ensures ∙ g.met.V.Value.plain) c.write.ensures.values c.write.ensures.locks c.remove.ensures c.forget.ensures c.mark.ensures
    c.blank.ensures.plain c.blank.ensures.sure c.blank.ensures.idle c.change.ensures
