-- What a workbook shows, by the meanings of its parts, and when that is what a past leaves.
use Rattle.std.specs.Prelude.{◌≡◌, Bool, true, false, List, [], ℕ}
use Rattle.std.proofs.Math.Option.{Option, none, some}
use Rattle.interfaces.specs.Tasks.{Def}
use Rattle.interfaces.specs.Traces.{Trace}
use Rattle.past.specs.Afresh.{Finishing}
use Rattle.past.specs.Past.{Past, cells, defs, last, kept, stored, Cause, InDoubt}

-- for each cell: its stored value and its lock, its definition, its traces, and its record: whether it is marked as
-- defined, its cause if it is in doubt, and its asked cells
pub record View (M : Type 0) : Type 0 where
  pub stored : ℕ → M
  pub locked : ℕ → Bool
  pub defs : ℕ → Option (Def M)
  pub traces : ℕ → List (Trace M)
  pub marked : ℕ → Bool
  pub cause : ℕ → Option ℕ
  pub asked : ℕ → List ℕ

-- whether there is a definition
abbrev pub is_defined : {M : Type 0} → Option (Def M) → Bool
is_defined none = false
is_defined (some d) = true

-- the cells that a last finishing asked for
abbrev pub asked_in : {M : Type 0} → Option (Finishing M) → List ℕ
asked_in none = []
asked_in (some f) = cells f.asks

-- the view is what the past leaves: `locks` are the store's, which never change
pub record Shows {M : Type 0} (blank : M) (locks : ℕ → Bool) (depth : ℕ) (p : Past M) (w : View M) : Type 0 where
  pub values_are : (x : ℕ) → w.stored x ≡ stored blank p x
  pub locks_are : (x : ℕ) → w.locked x ≡ locks x
  pub defs_are : (x : ℕ) → w.defs x ≡ defs p x
  pub traces_are : (x : ℕ) → w.traces x ≡ kept depth p x
  pub marks_are : (x : ℕ) → w.marked x ≡ is_defined (defs p x)
  pub doubts : (x y : ℕ) → w.cause x ≡ some y → Cause blank p x y
  pub calm : (x : ℕ) → w.cause x ≡ none → ¬ InDoubt blank p x
  pub asked_are : (x : ℕ) → w.asked x ≡ asked_in (last p x)
