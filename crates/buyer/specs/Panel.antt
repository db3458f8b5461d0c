-- What the memory of a panel's store must have.
use Rattle.std.specs.Prelude.{ℕ, cond, Ok, Err, Result, nat_le}
use Rattle.interfaces.specs.Cells.{cell_count}
use Rattle.interfaces.specs.Refusals.{Said, no}

-- memory of `n` values serves exactly if it has a place for each cell
abbrev pub checked : ℕ → Result (Unit {0}) Said
checked n = cond (nat_le cell_count n) (Ok tt) (Err (no 1))
