-- What an edit is given.
use Rattle.std.specs.Prelude.{◌≡◌, ℕ, List, Ok, Err, Result}
use Rattle.interfaces.specs.declared.refusal.Refusal.{Refusal}
use Rattle.interfaces.specs.Refusals.{Said, said, no}

-- a value in normal form, or what is to be said of bytes that are none
abbrev pub given_of : {V : Type 0} → (V → V) → Result V Refusal → Result V Said
given_of canon (Ok v) = Ok (canon v)
given_of canon (Err e) = Err (said e)

-- the bytes are read as something of which `P` holds: as a value that they are written for, or, if there is none, as what
-- is said of bytes that are none
pub data ReadAs {V : Type 0} (canon : V → V) (written : V → List ℕ) (unread : ℕ) (bytes : List ℕ) (P : Result V Said → Type 0) : Type 0 where
  value : (v : V) → written v ≡ bytes → P (Ok (canon v)) → ReadAs canon written unread bytes P
  none : ((v : V) → ¬ (written v ≡ bytes)) → P (Err (no unread)) → ReadAs canon written unread bytes P
