-- Blocks of lent memory: for each place of a ring and each cell one, with a trace's answers and its result.
use Rattle.std.specs.Prelude.{◌≡◌, ℕ, ◌+◌, ◌*◌, ◌≤◌, cond, ◌⊎◌, List, length, take, drop, Ok, Err, Result, nat_le, slice_index_or}
use Rattle.interfaces.specs.Cells.{ask_limit, trace_length}
use Rattle.interfaces.specs.Refusals.{Said, no}

-- memory of `n` values serves exactly if it has a block of every cell for each place
abbrev pub checked : ℕ → ℕ → Result (Unit {0}) Said
checked depth n = cond (nat_le (trace_length * depth) n) (Ok tt) (Err (no 1))

-- how many values a block has
abbrev pub block_length : ℕ
block_length = ask_limit + 1

-- where a block begins
abbrev pub block_at : ℕ → ℕ → ℕ
block_at place cell = place * trace_length + cell * block_length

abbrev pub block : {V : Type 0} → ℕ → List V → List V
block base values = take block_length (drop base values)

-- blocks that share no place
abbrev pub Apart : ℕ → ℕ → Type 0
Apart a b = (a + block_length ≤ b) ⊎ (b + block_length ≤ a)

-- answers and a result were written into the block at `base`, and nothing elsewhere
pub record Wrote {V : Type 0} (blank : V) (base : ℕ) (answers : List V) (result : V) (old new : List V) : Type 0 where
  pub front : take (length answers) (block base new) ≡ answers
  pub last : slice_index_or (block base new) ask_limit blank ≡ result
  pub others : (b : ℕ) → Apart b base → block b new ≡ block b old
