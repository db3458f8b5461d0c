use Rattle.std.proofs.Common.{◌≡◌, length, drop}
use Rattle.stores.proofs.Gathered.{Gathers}
use Rattle.stores.proofs.shield.set_of.Given as goal

abbrev pub invariant-loop-cell : goal.invariant-loop-cell
invariant-loop-cell l = (length l.set ≡ 256) × Gathers l.set (drop l.cell-index l.cells) l.cells
