-- What a touch does to the records: doubt spreads to whatever reaches the touched cell.
use Rattle.std.specs.Prelude.{◌≡◌, ℕ, suc, Bool, true, List, ◌∷◌}
use Rattle.std.proofs.Math.Option.{Option, none, some}
use Rattle.interfaces.specs.Cells.{cell_count}
use Rattle.table.specs.declared.Record.{Record}
use Rattle.table.specs.Records.{marked_in, cause_in, asked_in}

-- the number stands in the list
pub data Among (x : ℕ) : List ℕ → Type 0 where
  first : {y : ℕ} {l : List ℕ} → x ≡ y → Among x (y ∷ l)
  later : {y : ℕ} {l : List ℕ} → Among x l → Among x (y ∷ l)

-- `Leads asked c x`: the cell `x` reaches `c` by asked cells; it asked for `c`, or for a cell that reaches it
pub data Leads (asked : ℕ → List ℕ) (c : ℕ) : ℕ → Type 0 where
  near : {x : ℕ} → Among c (asked x) → Leads asked c x
  far : {x y : ℕ} → Among y (asked x) → Leads asked c y → Leads asked c x

-- no way down the asked cells from `x` has `n` steps
pub data Shallow (asked : ℕ → List ℕ) : ℕ → ℕ → Type 0 where
  shallow : {n x : ℕ} → ((y : ℕ) → Among y (asked x) → Shallow asked n y) → Shallow asked (suc n) x

-- the asked cells of defined cells that are not in doubt lead in no circle: a way down has no more steps than there are
-- cells
abbrev pub Grounded : (ℕ → Bool) → (ℕ → Option ℕ) → (ℕ → List ℕ) → Type 0
Grounded marked cause asked = (x : ℕ) → marked x ≡ true → cause x ≡ none → Shallow asked (suc cell_count) x

-- the cause of the cell `x` after a touch of `c`
pub data Doubts (c : ℕ) (marked : ℕ → Bool) (cause cause' : ℕ → Option ℕ) (asked : ℕ → List ℕ) (x : ℕ) : Type 0 where
  -- it is defined, was not in doubt and reaches `c`: then `c` is its cause
  falls : marked x ≡ true → cause x ≡ none → Leads asked c x → cause' x ≡ some c → Doubts c marked cause cause' asked x
  -- otherwise its cause is what it was
  stays : (marked x ≡ true → cause x ≡ none → ¬ Leads asked c x) → cause' x ≡ cause x → Doubts c marked cause cause' asked x

-- the records before and after a touch of `c`: only causes change, and they change as `Doubts` says
pub record Marks (c : ℕ) (before after : ℕ → Record) : Type 0 where
  pub same_marks : (x : ℕ) → marked_in after x ≡ marked_in before x
  pub same_asked : (x : ℕ) → asked_in after x ≡ asked_in before x
  pub doubts : (x : ℕ) → Doubts c (marked_in before) (cause_in before) (cause_in after) (asked_in before) x
