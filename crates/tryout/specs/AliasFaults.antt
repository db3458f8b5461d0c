-- A definition of the alias language has no fault at all.
use Rattle.std.specs.Prelude.{◌≡◌, ℕ, ◌≢◌, List, [], ◌∷◌}
use Rattle.std.proofs.Common.{arith}
use Rattle.interfaces.specs.Tasks.{faults, Own}
use Rattle.tryout.specs.Alias.{alias, alias_stands}

faultless : {M : Type 0} (b : ℕ) (answers : List M) (n m : ℕ) → alias b answers ≡ faults n m → (n ≢ 16) × (n ≢ 17)
faultless b [] n m e = absurd (let z : ◌≡◌ {A = ℕ} 0 1 = cc in omega arith)
faultless b (v ∷ vs) n m e = absurd (let z : ◌≡◌ {A = ℕ} 0 1 = cc in omega arith)

pub alias_own : (M : Type 0) (text : List ℕ) → Own (alias_stands {M = M} text)
alias_own M [] = tt
alias_own M (b ∷ []) = faultless b
alias_own M (b ∷ c ∷ bs) = tt
