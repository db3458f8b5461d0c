-- The smallest parts of a formula at a place of a text. What is read comes with the place behind it, and what
-- cannot be read with the place where the text goes wrong. Each part is said twice: as the value that is read, and
-- in the words of the reader of formulas.
use Rattle.std.specs.Prelude.{◌≡◌, ℕ, ◌+◌, ◌*◌, ◌<◌, ◌≤◌, cond, List, [], ◌∷◌, length, drop, pos, Some, None, Ok, Err, Option as Maybe, Result, ◌==◌, nat_le, slice_index, slice_index_or}
use Rattle.std.proofs.Math.Option.{Option, none, some}
use Rattle.interfaces.specs.Cells.{cell_count, number_of}
use Rattle.names.specs.Names.{byte_stands, NoNameAt}
use Rattle.whole.specs.declared.Whole.{Whole}
use Rattle.whole.specs.Whole.{whole_limit}
use Rattle.formula.specs.Bytes.{digit_of, column_of}
use Rattle.formula.specs.Grammar.{number, sum_limit}
use Rattle.formula.specs.Reader.{AtFactor, Use, State, want, have, want_name, due_all, hand, named, counted, Reading, fails, run}
use Rattle.sheet_work.specs.declared.block.Block.{Block}
use Rattle.sheet_work.specs.Blocks.{block_of}

-- the bytes of a word, one after another
abbrev pub spelled : List ℕ → ℕ → List ℕ → Result ℕ ℕ
spelled text at [] = Ok at
spelled text at (b ∷ bs) = cond (byte_stands text at b) (spelled text (at + 1) bs) (Err at)

-- a number
abbrev pub whole_of : ℕ → Whole
whole_of n = record { value = pos n }

-- one more digit, if there is one, of a number that is `n` so far; it must not lead beyond the limit
abbrev pub one_digit : ℕ → ℕ → Option ℕ → (ℕ → Result (Whole × ℕ) ℕ) → Result (Whole × ℕ) ℕ
one_digit at n none more = Ok (whole_of n, at)
one_digit at n (some d) more = cond (nat_le (n * 10 + d) whole_limit) (more (n * 10 + d)) (Err at)

abbrev pub digits_from : ℕ → ℕ → List ℕ → Result (Whole × ℕ) ℕ
digits_from at n [] = Ok (whole_of n, at)
digits_from at n (b ∷ bs) = one_digit at n (digit_of b) (λ m. digits_from (at + 1) m bs)

-- a number by its first digit: no digit follows a 0
abbrev pub number_from : ℕ → Option ℕ → List ℕ → Result (Whole × ℕ) ℕ
number_from at none rest = Err at
number_from at (some d) rest = cond (d == 0) (Ok (whole_of 0, at + 1)) (digits_from (at + 1) d rest)

abbrev pub number_in : List ℕ → ℕ → Result (Whole × ℕ) ℕ
number_in text at = number_from at (digit_of (slice_index text at)) (drop (at + 1) text)

-- where a text that has no name at the place goes wrong: behind the letter of a column, or at the place
abbrev pub name_end_lem : ℕ → Option ℕ → ℕ
name_end_lem at none = at
name_end_lem at (some c) = at + 1

pub record NoName (text : List ℕ) (at place : ℕ) : Type 0 where
  pub no_name : NoNameAt text at
  pub place_is : place ≡ name_end_lem at (column_of (slice_index text at))

-- the number of the first cell of a block, and how many cells it has
abbrev pub block_means : Block → ℕ × ℕ
block_means b = (number_of b.first, b.count)

abbrev pub count_means : Result Block ℕ → Result (ℕ × ℕ) ℕ
count_means (Ok b) = Ok (block_means b)
count_means (Err place) = Err place

-- the count of a `sum` from the cell `c` on
abbrev pub block_at : ℕ → Maybe (ℕ × ℕ) → Result (ℕ × ℕ) ℕ
block_at at None = Err at
block_at at (Some b) = Ok b

abbrev pub count_from : ℕ → ℕ → Option ℕ → Result (ℕ × ℕ) ℕ
count_from at c none = Err at
count_from at c (some d) = block_at at (block_of c d)

abbrev pub count_in : List ℕ → ℕ → ℕ → Result (ℕ × ℕ) ℕ
count_in text at c = count_from at c (digit_of (slice_index text at))

-- what the text comes to from a place and a state on
abbrev pub run_at : List ℕ → ℕ → State → Reading
run_at text at st = run at st (drop at text)

-- the text goes wrong at the place
pub record Failed {X : Type 0} (start : X → State) (text : List ℕ) (at place : ℕ) : Type 0 where
  pub stops : (x : X) → run_at text at (start x) ≡ fails place
  pub fits : place ≤ length text

-- the byte stands at the place, or another or none
pub record Met (text : List ℕ) (at byte next : ℕ) : Type 0 where
  pub next_is : next ≡ at + 1
  pub within : at < length text
  pub is : slice_index_or text at 0 ≡ byte

pub record Missed (text : List ℕ) (at byte place : ℕ) : Type 0 where
  pub place_is : place ≡ at
  pub is_not : slice_index_or text at 0 ≡ byte → ⊥

-- the bytes of a word were read
pub record Spelled (text : List ℕ) (at : ℕ) (word : List ℕ) (next : ℕ) : Type 0 where
  pub runs : (st : State) → run_at text at (due_all word st) ≡ run_at text next st
  pub next_is : next ≡ at + length word
  pub fits : next ≤ length text

-- a number was read
pub record NumberRead (text : List ℕ) (at n next : ℕ) : Type 0 where
  pub runs : (w : AtFactor) → run_at text at (want w) ≡ run_at text next (have (hand (number n) w))
  pub limit : n ≤ whole_limit
  pub onward : at < next
  pub fits : next ≤ length text

-- the name of a cell was read
pub record NameRead (text : List ℕ) (at c next : ℕ) : Type 0 where
  pub runs : (u : Use) → run_at text at (want_name u) ≡ run_at text next (named u c)
  pub within : c < cell_count
  pub onward : at < next
  pub fits : next ≤ length text

-- a count stands at the place that a sum from the cell `c` on may have
pub record CountRead (text : List ℕ) (at c count : ℕ) : Type 0 where
  pub within : at < length text
  pub is : digit_of (slice_index text at) ≡ some count
  pub some_cell : 0 < count
  pub few : count ≤ sum_limit
  pub last : c + count ≤ cell_count

-- no count that such a sum may have
pub record NoCount (text : List ℕ) (at c place : ℕ) : Type 0 where
  pub place_is : place ≡ at
  pub refused : (mark : ℕ) (w : AtFactor) → counted mark c w (digit_of (slice_index text at)) ≡ none
