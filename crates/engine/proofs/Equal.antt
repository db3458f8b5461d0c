-- Every kind of value has a decidable equality, since its values have codes.
use Rattle.std.proofs.Common.{◌≡◌, refl, ap}
use native.Mathlib.Decide.{ℕ_discrete}
use base.Stored.{Coded, Gv, gnil, gnum, gcons}

dec_code : (x y : Gv) → Dec (x ≡ y)
dec_code gnil gnil = yes refl
dec_code gnil (gnum n) = no (λ e. cc)
dec_code gnil (gcons a b) = no (λ e. cc)
dec_code (gnum n) gnil = no (λ e. cc)
dec_code (gnum n) (gnum m) = go (ℕ_discrete n m)
  where
    go : Dec (n ≡ m) → Dec (gnum n ≡ gnum m)
    go (yes e) = yes (ap gnum e)
    go (no k) = no (λ e. k (cc))
dec_code (gnum n) (gcons a b) = no (λ e. cc)
dec_code (gcons a b) gnil = no (λ e. cc)
dec_code (gcons a b) (gnum n) = no (λ e. cc)
dec_code (gcons a b) (gcons a' b') = go (dec_code a a') (dec_code b b')
  where
    go : Dec (a ≡ a') → Dec (b ≡ b') → Dec (gcons a b ≡ gcons a' b')
    go (yes e) (yes f) = yes (cc)
    go (yes e) (no k) = no (λ f. k (cc))
    go (no k) _ = no (λ f. k (cc))

pub discrete : {A : Type 0} → Coded A → (x y : A) → Dec (x ≡ y)
discrete c x y = go (dec_code (c.code x) (c.code y))
  where
    go : Dec (c.code x ≡ c.code y) → Dec (x ≡ y)
    go (yes e) = yes (c.inj x y e)
    go (no n) = no (λ e. n (ap c.code e))
