-- A line written over the front of a buffer.
use Rattle.std.specs.Prelude.{◌≡◌, ℕ, ◌≤◌, cond, List, ◌++◌, length, drop, replicate, Ok, Err, Result, nat_le}
use Rattle.interfaces.specs.Refusals.{Said, no}

-- zeros in every place
abbrev pub zeros : List ℕ → List ℕ
zeros xs = replicate (length xs) 0

-- `ws` in the first places of `xs`, the rest as it was
abbrev pub over : List ℕ → List ℕ → List ℕ
over ws xs = ws ++ drop (length ws) xs

-- the bytes are those of `orig` with `ws` written over the front, and `len` is how many bytes that is
pub record Wrote (ws orig bytes : List ℕ) (len : ℕ) : Type 0 where
  pub holds : bytes ≡ over ws orig
  pub long : len ≡ length ws
  pub fits : length ws ≤ length orig

-- what writing the line `ws` into a buffer answers: its length, or 10 where it is longer than the buffer
abbrev pub line_answer : List ℕ → List ℕ → Result ℕ Said
line_answer ws buffer = cond (nat_le (length ws) (length buffer)) (Ok (length ws)) (Err (no 10))

-- what it leaves in the buffer: the line and the rest as it was, or zeros everywhere
abbrev pub line_left : List ℕ → List ℕ → List ℕ
line_left ws buffer = cond (nat_le (length ws) (length buffer)) (over ws buffer) (zeros buffer)
