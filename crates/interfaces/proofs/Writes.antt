-- What the answer of a store's write says of the lock. Assumes nothing.
use Rattle.std.proofs.Common.{◌≡◌, ℕ, Bool, true, false, cond, Ok, Err, Result, refl, arith}
use Rattle.interfaces.specs.Refusals.{Said, no}

-- a refused write met a lock
pub refused_locked : (b : Bool) (s : Said) → ◌≡◌ {A = Result (Unit {0}) Said} (Err s) (cond b (Err (no 3)) (Ok tt)) → (b ≡ true) × (s ≡ no 3)
refused_locked true s e = (refl, cc)
refused_locked false s e = absurd (let z : ◌≡◌ {A = ℕ} 0 1 = cc in omega arith)

-- an accepted write met none
pub accepted_open : (b : Bool) (u : Unit {0}) → ◌≡◌ {A = Result (Unit {0}) Said} (Ok u) (cond b (Err (no 3)) (Ok tt)) → b ≡ false
accepted_open false u e = refl
accepted_open true u e = absurd (let z : ◌≡◌ {A = ℕ} 0 1 = cc in omega arith)
