-- The walk down the asked cells that finds out which cells reach one, and remembers it.
use Rattle.std.specs.Prelude.{◌≡◌, ℕ, suc, Bool, true, false, List, Some, None, Option as Maybe, slice_index_or}
use Rattle.interfaces.specs.declared.cell.Cell.{Cell}
use Rattle.interfaces.specs.Cells.{cell_count, number_of, but}
use Rattle.table.specs.declared.Record.{Record}
use Rattle.table.specs.Records.{calm_record, asked_in}
use Rattle.table.specs.Marks.{Among, Leads, Shallow}

-- the answer tells whether the fact holds
abbrev pub Tells : Bool → Type 0 → Type 0
Tells true P = P
Tells false P = ¬ P

-- what is remembered of a cell tells whether it reaches `c`
abbrev pub Knows : (ℕ → List ℕ) → ℕ → List (Maybe Bool) → Type 0
Knows asked c known = (k : ℕ) (b : Bool) → slice_index_or known k None ≡ Some b → Tells b (Leads asked c k)

-- a visit of the cell `x`, from which no way down has `fuel` steps
abbrev pub Visits : (ℕ → List ℕ) → ℕ → (fuel x : ℕ) → List (Maybe Bool) → List (Maybe Bool) → Bool → Type 0
Visits asked c fuel x known known' b = Shallow asked fuel x → Knows asked c known → Knows asked c known' × Tells b (Leads asked c x)

-- one of these cells is `c` or reaches it
pub data Any (asked : ℕ → List ℕ) (c : ℕ) (ys : List ℕ) : Type 0 where
  itself : Among c ys → Any asked c ys
  below : {y : ℕ} → Among y ys → Leads asked c y → Any asked c ys

-- a visit of each of these cells, until one is found
abbrev pub VisitsAny : (ℕ → List ℕ) → ℕ → (fuel : ℕ) → (ys : List ℕ) → List (Maybe Bool) → List (Maybe Bool) → Bool → Type 0
VisitsAny asked c fuel ys known known' b =
    ((y : ℕ) → Among y ys → Shallow asked fuel y) → Knows asked c known → Knows asked c known' × Tells b (Any asked c ys)

-- the record of a cell that has come to be in doubt
abbrev pub doubted : Cell → Record → Record
doubted c r = record { defined = r.defined; cause = Some c; asked = r.asked }

-- one cell's turn in a marking
pub data Turns (c : Cell) (x : ℕ) (before after : ℕ → Record) (known known' : List (Maybe Bool)) : Type 0 where
  -- it is not defined, or in doubt
  passes : calm_record (before x) ≡ false → ((k : ℕ) → after k ≡ before k) → known' ≡ known → Turns c x before after known known'
  -- it does not reach `c`
  misses : calm_record (before x) ≡ true → ((k : ℕ) → after k ≡ before k) → Visits (asked_in before) (number_of c) (suc cell_count) x known known' false
      → Turns c x before after known known'
  -- it reaches `c`
  hits : calm_record (before x) ≡ true → ((k : ℕ) → after k ≡ but x (doubted c (before x)) before k)
      → Visits (asked_in before) (number_of c) (suc cell_count) x known known' true → Turns c x before after known known'
