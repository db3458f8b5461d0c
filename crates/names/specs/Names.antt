-- The names of cells: a column letter and a row without leading zero.
use Rattle.std.specs.Prelude.{◌≡◌, ℕ, ◌+◌, ◌/◌, ◌%◌, ◌<◌, ◌≤◌, Bool, cond, ◌&&◌, List, [], ◌∷◌, ◌++◌, length, drop, Option, MatchOption, ◌≢◌, ◌==◌, nat_le, nat_lt, slice_index}
use Rattle.interfaces.specs.declared.cell.Cell.{Cell}
use Rattle.interfaces.specs.Cells.{cell_count, number_of}

-- the byte `b` stands at the place
abbrev pub ByteAt : List ℕ → ℕ → ℕ → Type 0
ByteAt text at b = (at < length text) × (slice_index text at ≡ b)

-- whether the byte `b` stands at the place
abbrev pub byte_stands : List ℕ → ℕ → ℕ → Bool
byte_stands text at b = nat_lt at (length text) && slice_index text at == b

-- how far behind `first` the byte at the place comes, if it is one from `first` to `last`
abbrev pub OffsetAt : List ℕ → ℕ → ℕ → ℕ → Option ℕ → Type 0
OffsetAt text at first last r =
    MatchOption r ((d : ℕ) → first + d ≤ last → ByteAt text at (first + d) → ⊥)
    (λ d. (first + d ≤ last) × ByteAt text at (first + d))

-- columns A to P
abbrev pub column_count : ℕ
column_count = 16

abbrev pub row_count : ℕ
row_count = cell_count / column_count

-- a row in decimal; no row has more than two digits
abbrev pub row_name : ℕ → List ℕ
row_name r = cond (nat_lt r 10) ((48 + r) ∷ []) ((48 + r / 10) ∷ (48 + r % 10) ∷ [])

-- the name of the cell with this number
abbrev pub name_of : ℕ → List ℕ
name_of n = (65 + n / row_count) ∷ row_name (n % row_count + 1)

-- the name of the cell `n` stands at the place `at`, up to the place `next`; no longer name stands there
pub record NameAt (text : List ℕ) (at n next : ℕ) : Type 0 where
  pub within : n < cell_count
  pub next_is : next ≡ at + length (name_of n)
  pub reads : drop at text ≡ name_of n ++ drop next text
  pub longest : (m : ℕ) (rest : List ℕ) → m < cell_count → drop at text ≡ name_of m ++ rest → length (name_of m) ≤ length (name_of n)

-- no name stands at the place
abbrev pub NoNameAt : List ℕ → ℕ → Type 0
NoNameAt text at = (m : ℕ) (rest : List ℕ) → m < cell_count → drop at text ≢ name_of m ++ rest

-- the text is the name of the cell, or no cell's name
abbrev pub Named : List ℕ → Option Cell → Type 0
Named text r = MatchOption r ((m : ℕ) → m < cell_count → name_of m ≢ text) (λ c. (number_of c < cell_count) × (name_of (number_of c) ≡ text))

-- cells with one name are one cell
abbrev pub OneName : Type 0
OneName = (m n : ℕ) → m < cell_count → n < cell_count → name_of m ≡ name_of n → m ≡ n

-- where a text that has no name at the place leaves every name: behind the letter of a column, or at the place
abbrev pub left_at : (byte at : ℕ) → ℕ
left_at b at = cond (nat_le 65 b) (cond (nat_lt b (65 + column_count)) (at + 1) at) at

-- no name stands at the place, and the text leaves every name at `end`
abbrev pub LeftAt : List ℕ → ℕ → ℕ → Type 0
LeftAt text at end = NoNameAt text at × (end ≡ left_at (slice_index text at) at)
