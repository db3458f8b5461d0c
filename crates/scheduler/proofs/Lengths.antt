-- Lists by places.
use Rattle.std.proofs.Common.{◌≡◌, ℕ, ◌-◌, ◌<◌, List, [], ◌∷◌, ◌++◌, length, take, ap, ◌∙◌, arith, take_all, length-append}
use Rattle.std.proofs.Math.Seq.{take-append_seam}

module _ {A : Type 0} where
  -- a list that has room for one more
  pub pushed : (n : ℕ) (xs ys : List A) (v : A) → ys ≡ take n (xs ++ (v ∷ [])) → length xs < n → ys ≡ xs ++ (v ∷ [])
  pushed n xs ys v e h = e ∙ take_all n (xs ++ (v ∷ [])) (omega (arith, length-append xs (v ∷ [])))

  -- and that is as it was without it
  pub popped : (xs ys zs : List A) (v : A) → ys ≡ xs ++ (v ∷ []) → zs ≡ take (length ys - 1) ys → zs ≡ xs
  popped xs ys zs v e f =
      f ∙ ap (λ z. take (length z - 1) z) e ∙ ap (λ n. take n (xs ++ (v ∷ []))) (omega (arith, length-append xs (v ∷ []))) ∙ take-append_seam xs (v ∷ [])
