use Rattle.std.proofs.Common.{refl}
use Rattle.std.proofs.lemmas.Result.{err_from_is_err_and}
use Rattle.interfaces.specs.Cells.{number_of}
use Rattle.engine.proofs.Ways.{places_at_locked, places_none, places}
use Rattle.engine.proofs.Workbook.define.Goals as goal

pub returns-then-is_locked : goal.returns-then-is_locked
returns-then-is_locked g c =
    places_at_locked g.V.Value g.S.Store g.L.Language g.R.Rebuilder g.row.V.coded c.args.self.now.parts (number_of c.args.cell) c.get-row.result c.get-row.ensures.row c.get-row.ensures.bound
    c.args.text.now c.if-is_locked.ensures

pub returns-in_err-place : goal.returns-in_err-place
returns-in_err-place g c =
    let p = err_from_is_err_and c.from_residual.result c.from_residual.ensures.1 in
    let w = c.in_err-place.ensures in
    places_none g.V.Value g.S.Store g.L.Language g.R.Rebuilder g.row.V.coded c.args.self.now.parts (number_of c.args.cell) c.get-row.result c.get-row.ensures.row c.get-row.ensures.bound
    c.args.text.now c.if-is_locked.ensures c.place.new.self w.defs c.from_residual.result p.0 c.in_err-place.field-0.0 w.answer p.1 p.2

pub returns : goal.returns
returns g c =
    let w = c.in_ok-place.ensures in
    places g.V.Value g.S.Store g.L.Language g.R.Rebuilder g.row.V.coded c.args.self.now.parts (number_of c.args.cell) c.get-row.result c.get-row.ensures.row c.get-row.ensures.bound
    c.args.text.now c.if-is_locked.ensures c.place.new.self w.defs tt c.forget.new.self c.mark.new.self c.change.new.self c.new-row.result w.answer
    c.forget.ensures c.mark.ensures c.args.cell refl c.new-row.ensures c.change.ensures
