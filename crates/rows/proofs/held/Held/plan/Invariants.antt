use Rattle.interfaces.specs.Cells.{number_of}
use Rattle.interfaces.specs.Traces.{plan_means, pairs_of}
use Rattle.rows.specs.Kept.{trace_aged}
use Rattle.rows.proofs.Plans.{Weighed}
use Rattle.rows.proofs.held.Held.plan.Given as goal

abbrev pub invariant-loop-age : goal.invariant-loop-age
invariant-loop-age g l =
    Weighed g.V.Value.canon g.V.Value.alike (trace_aged g.V.Value.canon g.V.Value.blank g.row.D l.self.row.now l.self.values.now (number_of l.self.cell)) l.self.row.now.count
    (pairs_of g.V.Value.canon l.pairs.cells.now l.pairs.values.now) (plan_means g.V.Value.canon l.best) l.age
