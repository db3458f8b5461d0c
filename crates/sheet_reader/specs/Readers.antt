-- What the reading functions have read, in the words of the reader of formulas.
use Rattle.std.specs.Prelude.{◌≡◌, ℕ, ◌<◌, ◌≤◌, List, length, ◌≢◌, slice_index}
use Rattle.std.proofs.Math.Option.{none, some}
use Rattle.interfaces.specs.Cells.{text_limit}
use Rattle.whole.specs.declared.Whole.{Whole}
use Rattle.formula.specs.declared.byte.Operator.{Operator}
use Rattle.formula.specs.declared.byte.Link.TheVariants.{Strong}
use Rattle.formula.specs.Bytes.{link_of}
use Rattle.formula.specs.Grammar.{Tree}
use Rattle.formula.specs.Meaning.{work}
use Rattle.formula.specs.Reader.{Around, AtTerm, first_term, AtFactor, first_factor, State, want, have, inside, hand, shut, finish, reads, fails, reading}
use Rattle.sheet_work.specs.Flows.{Flow, Worked, outcome_of, work_from}
use Rattle.sheet_parts.specs.Tokens.{run_at}

-- the states before and after a factor, a term and a formula, whatever waits for it
abbrev pub factor_after : Tree → AtFactor → State
factor_after t w = have (hand t w)

abbrev pub term_start : AtTerm → State
term_start w = want (first_factor w)

abbrev pub term_after : Tree → AtTerm → State
term_after t w = have (record { tree = t; wait = w })

abbrev pub formula_after : Tree → Around → State
formula_after t k = have (record { tree = t; wait = first_term k })

-- a part of the text was read up to the place `next`, and worked out
pub record Took {X : Type 0} (start : X → State) (after : Tree → X → State) (text : List ℕ) (at : ℕ) (answers : List Whole) (from : Flow) (got : Worked) (next : ℕ) : Type 0 where
  pub tree : Tree
  pub runs : (x : X) → run_at text at (start x) ≡ run_at text next (after tree x)
  pub works : outcome_of answers got ≡ work_from answers from tree
  pub onward : at < next
  pub fits : next ≤ length text

-- no operator between factors stands at the place
abbrev pub NoProduct : List ℕ → ℕ → Type 0
NoProduct text at = (o : Operator) → link_of (slice_index text at) ≢ Strong o

-- only this byte ends the formula
pub record Closes (k : Around) (byte : ℕ) : Type 0 where
  pub others : (t : Tree) (b : ℕ) → (b ≢ byte) → shut t k b ≡ none
  pub not_end : (t : Tree) → finish t k ≡ none

-- a formula and the byte that ends it were read
pub record TookPart (text : List ℕ) (at : ℕ) (answers : List Whole) (from : Flow) (byte : ℕ) (got : Worked) (next : ℕ) : Type 0 where
  pub tree : Tree
  pub runs : (k : Around) (st : State) → shut tree k byte ≡ some st → run_at text at (inside k) ≡ run_at text next st
  pub works : outcome_of answers got ≡ work_from answers from tree
  pub onward : at < next
  pub fits : next ≤ length text

pub record FailedPart (text : List ℕ) (at byte place : ℕ) : Type 0 where
  pub stops : (k : Around) → Closes k byte → run_at text at (inside k) ≡ fails place
  pub fits : place ≤ length text

-- the whole text was read and worked out; it is no longer than a definition may be
pub record WholeRead (text : List ℕ) (answers : List Whole) (got : Worked) : Type 0 where
  pub tree : Tree
  pub short : length text ≤ text_limit
  pub is : reading text ≡ reads tree
  pub works : outcome_of answers got ≡ work tree answers

-- the text goes wrong at the place; one that is too long for a definition does so behind its 48th byte
pub record WholeFailed (text : List ℕ) (place : ℕ) : Type 0 where
  pub short : length text ≤ text_limit → reading text ≡ fails place
  pub long : text_limit < length text → place ≡ text_limit
  pub fits : place ≤ text_limit
