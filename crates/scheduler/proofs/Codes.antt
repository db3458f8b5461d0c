-- Every kind of value has a decidable equality, since its values have codes.
use Rattle.std.proofs.Common.{◌≡◌, ℕ, refl, ap, arith}
use native.Mathlib.Decide.{ℕ_discrete}
use base.Stored.{Coded, Gv, gnil, gnum, gcons}

dec_gv : (x y : Gv) → Dec (x ≡ y)
dec_gv gnil gnil = yes refl
dec_gv gnil (gnum n) = no (λ e. let z : ◌≡◌ {A = ℕ} 0 1 = cc in omega arith)
dec_gv gnil (gcons a b) = no (λ e. let z : ◌≡◌ {A = ℕ} 0 1 = cc in omega arith)
dec_gv (gnum n) gnil = no (λ e. let z : ◌≡◌ {A = ℕ} 0 1 = cc in omega arith)
dec_gv (gnum n) (gnum m) = go (ℕ_discrete n m)
  where
    go : Dec (n ≡ m) → Dec (gnum n ≡ gnum m)
    go (yes e) = yes (ap gnum e)
    go (no k) = no (λ e. k (cc))
dec_gv (gnum n) (gcons a b) = no (λ e. let z : ◌≡◌ {A = ℕ} 0 1 = cc in omega arith)
dec_gv (gcons a b) gnil = no (λ e. let z : ◌≡◌ {A = ℕ} 0 1 = cc in omega arith)
dec_gv (gcons a b) (gnum n) = no (λ e. let z : ◌≡◌ {A = ℕ} 0 1 = cc in omega arith)
dec_gv (gcons a b) (gcons a' b') = go (dec_gv a a') (dec_gv b b')
  where
    go : Dec (a ≡ a') → Dec (b ≡ b') → Dec (gcons a b ≡ gcons a' b')
    go (yes e) (yes f) = yes (cc)
    go (yes e) (no k) = no (λ f. k (cc))
    go (no k) _ = no (λ f. k (cc))

pub discrete : {A : Type 0} → Coded A → (x y : A) → Dec (x ≡ y)
discrete c x y = go (dec_gv (c.code x) (c.code y))
  where
    go : Dec (c.code x ≡ c.code y) → Dec (x ≡ y)
    go (yes e) = yes (c.inj x y e)
    go (no n) = no (λ e. n (ap c.code e))
