-- Tables of one value. Assumes nothing.
use Rattle.std.proofs.Common.{◌≡◌, ℕ, zero, suc, get_or, replicate, refl}

-- every place of a table of one value has that value, and so has every place past it
pub everywhere : {A : Type 0} (n k : ℕ) (a : A) → get_or (replicate n a) k a ≡ a
everywhere zero k a = refl
everywhere (suc n) zero a = refl
everywhere (suc n) (suc k) a = everywhere n k a
