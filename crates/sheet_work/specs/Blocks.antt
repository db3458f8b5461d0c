-- The cells that `sum` takes.
use Rattle.std.specs.Prelude.{ℕ, ◌+◌, cond, Some, None, Option, nat_le, nat_lt}
use Rattle.interfaces.specs.Cells.{cell_count}
use Rattle.formula.specs.Grammar.{sum_limit}

-- the number of the first cell and how many cells there are: 1 to 8 from the cell `c` on, if there are so many
abbrev pub block_of : ℕ → ℕ → Option (ℕ × ℕ)
block_of c d = cond (nat_lt 0 d) (cond (nat_le d sum_limit) (cond (nat_le (c + d) cell_count) (Some (c, d)) None) None) None
