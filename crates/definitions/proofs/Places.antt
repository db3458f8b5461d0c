-- The place where a text leaves a language: there is one, and a legal text has none. Assumes nothing.
use Rattle.std.proofs.Common.{◌≡◌, ℕ, List, [], ⊎_elim}
use Rattle.std.proofs.lemmas.List.{append-nil}
use Rattle.std.proofs.lemmas.Bool.{cases_order}
use Rattle.definitions.specs.Longest.{Begins, Longest}

module _ (Legal : List ℕ → Type 0) where
  -- the place is one
  pub one_place : (text : List ℕ) (p q : ℕ) → Longest Legal text p → Longest Legal text q → p ≡ q
  one_place text p q a b = ⊎_elim
      (λ e. e)
      (λ o. absurd (⊎_elim (λ l. a.ends q l b.fits b.begins) (λ l. b.ends p l a.fits a.begins) o))
      (cases_order p q)

  -- a legal text begins with each of its beginnings, itself too
  pub legal_begins : (text : List ℕ) → Legal text → Begins Legal text
  legal_begins text h = record { rest = []; legal = let e = append-nil text in rw e h }
