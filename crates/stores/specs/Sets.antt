-- Sets of cells, given by a list.
use Rattle.std.specs.Prelude.{ℕ, Bool, true, false, cond, List, [], ◌∷◌, ◌==◌}
use Rattle.interfaces.specs.declared.cell.Cell.{Cell}
use Rattle.interfaces.specs.Cells.{number_of}

-- whether the cell of a number is in a list
abbrev pub listed : List Cell → ℕ → Bool
listed [] k = false
listed (c ∷ cs) k = cond (k == number_of c) true (listed cs k)
