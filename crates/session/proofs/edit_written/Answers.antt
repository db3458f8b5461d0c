use Rattle.std.proofs.Common.{Err, sym, ap, ◌∙◌}
use Rattle.std.proofs.lemmas.Result.{err_from_is_err_and}
use Rattle.interfaces.specs.Cells.{number_of}
use Rattle.interfaces.specs.Refusals.{said, told}
use Rattle.session.specs.Session.{held}
use Rattle.session.proofs.Running.{edit_taken, edit_unfit}
use Rattle.session.proofs.edit_written.Goals as goal

pub returns-then-is_locked-clause-edited : goal.returns-then-is_locked-clause-edited
returns-then-is_locked-clause-edited g c = held (sym c.if-is_locked.ensures)

pub returns-in_err-value-clause-edited : goal.returns-in_err-value-clause-edited
returns-in_err-value-clause-edited g c =
    let p = err_from_is_err_and c.from_residual.result c.from_residual.ensures.1 in
    let f = c.in_err-value.ensures in
    edit_unfit g.P.Printed.written g.P.Printed.unread g.P.Value.canon (g.S.Store.locked c.args.store.now) _ (number_of c.args.cell) c.args.bytes.now _
    (sym c.if-is_locked.ensures) f.1 (ap told p.1 ∙ ap Err (ap said p.2 ∙ f.0))

pub returns-clause-edited : goal.returns-clause-edited
returns-clause-edited g c =
    edit_taken g.P.Printed.written g.P.Printed.unread g.P.Value.canon (g.S.Store.locked c.args.store.now) _ _ (number_of c.args.cell) c.args.bytes.now c.in_ok-value.value _
    (sym c.if-is_locked.ensures) c.in_ok-value.ensures (g.met.P.Printed.one_form c.in_ok-value.value) c.write.ensures.answer c.write.ensures.values
