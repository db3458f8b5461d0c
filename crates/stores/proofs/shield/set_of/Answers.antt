use Rattle.std.proofs.Common.{refl, ◌∙◌, arith}
use Rattle.std.proofs.lemmas.List.{length-set}
use Rattle.stores.proofs.Gathered.{gathers_none, gathers_more, gathers_all}
use Rattle.stores.proofs.shield.set_of.Goals as goal

pub loop-cell-init : goal.loop-cell-init
loop-cell-init c = (refl, gathers_none 256 c.args.cells.now)

pub loop-cell-preserved : goal.loop-cell-preserved
loop-cell-preserved c = (
  length-set _ _ _ ∙ c.loop-cell.invariant.0,
  gathers_more _ _ _ _ _ c.loop-cell-test.true c.number.ensures.value (omega (arith, c.number.ensures.bound)) c.loop-cell.invariant.1,
)

pub returns : goal.returns
returns c = gathers_all _ _ _ c.loop-cell-test.false c.loop-cell.invariant.1
