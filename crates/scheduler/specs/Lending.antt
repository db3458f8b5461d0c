-- The test of the lists that a query is lent.
use Rattle.std.specs.Prelude.{◌≡◌, Ok, Err, Result}
use Rattle.interfaces.specs.declared.refusal.Refusal.{Refusal}
use Rattle.interfaces.specs.Refusals.{said, no}
use Rattle.past.specs.Past.{Lent}
use Rattle.scheduler.specs.Promise.{Enough}

-- they suffice, or are refused as too short
abbrev pub Lends : Lent → Result (Unit {0}) Refusal → Type 0
Lends lent (Ok _) = Enough lent
Lends lent (Err e) = (Enough lent → ⊥) × (said e ≡ no 1)
