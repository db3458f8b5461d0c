-- What running a task that asks for nothing comes to, by the meanings of the parts.
use Rattle.std.specs.Prelude.{◌≡◌, ℕ, Bool, true, false, List, [], ◌∷◌, take, Ok, Err, Result, ◌≢◌}
use Rattle.interfaces.specs.Cells.{but}
use Rattle.interfaces.specs.Refusals.{Said, no}
use Rattle.interfaces.specs.Tasks.{Act, gives}
use Rattle.interfaces.specs.Traces.{Trace}

-- a value that is given is stored, unless the cell is locked; other steps change no value
pub data Ran {V : Type 0} (canon : V → V) (locked : Bool) (c : ℕ) (step : Act V) (r : Result Bool Said) (before after : ℕ → V) : Type 0 where
  stored : (v : V) → step ≡ gives v → locked ≡ false → r ≡ Ok true → ((k : ℕ) → canon (after k) ≡ but c v (λ j. canon (before j)) k) → Ran canon locked c step r before after
  held : (v : V) → step ≡ gives v → locked ≡ true → r ≡ Err (no 3) → ((k : ℕ) → canon (after k) ≡ canon (before k)) → Ran canon locked c step r before after
  left : ((v : V) → step ≢ gives v) → r ≡ Ok false → ((k : ℕ) → canon (after k) ≡ canon (before k)) → Ran canon locked c step r before after

-- a value that was stored is recorded with no asks; otherwise no trace changes
pub data Noted {V : Type 0} (depth c : ℕ) (step : Act V) (r : Result Bool Said) (before after : ℕ → List (Trace V)) : Type 0 where
  noted : (v : V) → step ≡ gives v → r ≡ Ok true → ((k : ℕ) → after k ≡ but c (take depth (record { asks = []; result = v } ∷ before c)) before k) → Noted depth c step r before after
  same : (r ≢ Ok true) → ((k : ℕ) → after k ≡ before k) → Noted depth c step r before after
