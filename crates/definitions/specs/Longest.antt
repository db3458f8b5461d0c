-- Where a text leaves a language: the length of its longest beginning that also begins some legal text.
use Rattle.std.specs.Prelude.{ℕ, ◌<◌, ◌≤◌, List, ◌++◌, length, take}

-- some legal text begins with these bytes
pub record Begins (Legal : List ℕ → Type 0) (xs : List ℕ) : Type 0 where
  pub rest : List ℕ
  pub legal : Legal (xs ++ rest)

-- the text is not legal, its first `place` bytes begin a legal text, and no longer beginning of it does
pub record Longest (Legal : List ℕ → Type 0) (text : List ℕ) (place : ℕ) : Type 0 where
  pub fits : place ≤ length text
  pub begins : Begins Legal (take place text)
  pub ends : (n : ℕ) → place < n → n ≤ length text → Begins Legal (take n text) → ⊥
  pub illegal : Legal text → ⊥
