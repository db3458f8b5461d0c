-- Lent memory, which has to have a number of places.
use Rattle.std.specs.Prelude.{ℕ, cond, Ok, Err, Result, nat_le}
use Rattle.interfaces.specs.Refusals.{Said, no}

-- what a check of memory with `n` places says: 1 where it has fewer than are needed
abbrev pub room_for : (needed n : ℕ) → Result (Unit {0}) Said
room_for needed n = cond (nat_le needed n) (Ok tt) (Err (no 1))
