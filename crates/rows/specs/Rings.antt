-- A ring of places: the newest first, each older one after it, and round at the end.
use Rattle.std.specs.Prelude.{ℕ, ◌+◌, ◌-◌, cond, ◌==◌, nat_lt}

-- the place of what is older than `age` others
abbrev pub place_in : ℕ → ℕ → ℕ → ℕ
place_in depth newest age = cond (nat_lt age (depth - newest)) (newest + age) (age - (depth - newest))

-- the place before a place
abbrev pub before : ℕ → ℕ → ℕ
before depth newest = cond (newest == 0) (depth - 1) (newest - 1)

-- how many are kept after one more
abbrev pub one_up : ℕ → ℕ → ℕ
one_up depth count = cond (nat_lt count depth) (count + 1) count
