use Rattle.std.proofs.Common.{ap, sym, ◌∙◌, length, get_or, arith, ltb-true}
use Rattle.interfaces.specs.Asks.{asked_cells}
use Rattle.interfaces.specs.Traces.{next}
use Rattle.interfaces.specs.Cells.{number_of}
use Rattle.rows.specs.Kept.{trace_of}
use Rattle.rows.proofs.Plans.{too_many, plan_apart, plan_onward}
use Rattle.rows.proofs.held.Kept.plan.Goals as goal
use Rattle.rows.proofs.held.Kept.plan.Goals.{then-pairs-asked-via-then-pairs-asked, then-pairs-asked-via-else-pairs-asked+then-not-begins}

pub returns-then-pairs-asked : goal.returns-then-pairs-asked
returns-then-pairs-asked g c =
    let whole = c.args.self.now.whole in
    let short = c.as_slice-asked.ensures.short in
    let few = ap length c.as_slice-asked.ensures.cells in
    plan_apart g.V.Value.canon g.V.Value.alike (trace_of g.V.Value.canon g.V.Value.blank (asked_cells c.args.self.now.asked.now) c.args.self.now.block.now) _
    (elim c.then-pairs-asked.branch [
      | then-pairs-asked-via-then-pairs-asked w ↦
          too_many g.V.Value.canon g.V.Value.alike (asked_cells c.args.self.now.asked.now) c.args.self.now.block.now c.args.pairs.now.cells.now c.args.pairs.now.values.now c.args.pairs.now.even
          (omega arith) (omega (arith, w.if-pairs-asked.true))
      | then-pairs-asked-via-else-pairs-asked+then-not-begins w ↦ w.if-not-begins.ensures
    ])

pub returns-in-Some : goal.returns-in-Some
returns-in-Some g c =
    let whole = c.args.self.now.whole in
    let short = c.as_slice-asked.ensures.short in
    let few = ap length c.as_slice-asked.ensures.cells in
    let l = ltb-true _ _ (sym c.in-Some.ensures.lookup.0) in
    ap (λ a. next (number_of a)) (c.in-Some.ensures.lookup.1 ∙ ap (λ asked. get_or asked (length c.args.pairs.now.cells.now) c.in-Some.next.now) c.as_slice-asked.ensures.cells)
    ∙ plan_onward g.V.Value.canon g.V.Value.alike g.V.Value.blank (asked_cells c.args.self.now.asked.now) c.args.self.now.block.now _ (length c.args.pairs.now.cells.now) c.if-not-begins.ensures c.in-Some.next.now (omega arith) (omega arith)
