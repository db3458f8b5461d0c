-- What a reader answers where a part of its text is wrong: the part's own place. Assumes nothing.
use Rattle.std.proofs.Common.{◌≡◌, ℕ, Err, Result}
use Rattle.std.specs.Result.{IsErrAnd}
use Rattle.std.proofs.lemmas.Result.{err_from_is_err_and}

pub passed_on : {T : Type 0} (r : Result T ℕ) (place : ℕ) → IsErrAnd r (λ y. y ≡ place) → r ≡ Err place
passed_on r place e = let p = err_from_is_err_and r e in rw (p.1, p.2)
