use Rattle.std.proofs.Common.{◌≡◌, length, sym, ap, ◌∙◌, arith}
use Rattle.std.proofs.lemmas.Grind.{common_steps}
use Rattle.std.proofs.lemmas.Bool.Decides.{nat_tests}
use Rattle.interfaces.specs.Cells.{number_of}
use Rattle.interfaces.specs.Traces.{after_recording}
use Rattle.rows.specs.Kept.{traces_of}
use Rattle.rows.proofs.Rows.{recorded, none_recorded}
use Rattle.rebuilders.proofs.traces.TracesRebuilder.record.Goals as goal

pub returns-else-this-gt0-clause-traces : goal.returns-else-this-gt0-clause-traces
returns-else-this-gt0-clause-traces g c k =
    let e : length c.args.cells.now ≡ length c.args.values.now = grind (arith, common_steps, nat_tests) in
    let r = recorded g.V.Value.canon c.args.cells.now c.args.values.now c.args.res e (omega arith) in
    none_recorded g.V.Value.canon g.V.Value.blank g.row.D c.args.self.now.rows c.args.self.now.values.now (number_of c.args.cell) _ (omega arith) k
    ∙ sym (ap (λ x. after_recording g.row.D x (number_of c.args.cell) (traces_of g.V.Value.canon g.V.Value.blank g.row.D c.args.self.now.rows c.args.self.now.values.now) k) r)
