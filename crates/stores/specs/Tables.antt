-- What the memory of a table store must have.
use Rattle.std.specs.Prelude.{ℕ, Result}
use Rattle.interfaces.specs.Cells.{cell_count}
use Rattle.interfaces.specs.Memory.{room_for}
use Rattle.interfaces.specs.Refusals.{Said}

-- memory of `n` places serves exactly if it has a place for each cell
abbrev pub checked : ℕ → Result (Unit {0}) Said
checked n = room_for cell_count n
