-- Tests of all bytes, and what they tell. Assumes nothing.
use Rattle.std.specs.Prelude.{◌≡◌, ℕ, zero, suc, ◌+◌, ◌<◌, ◌≤◌, Bool, true, false, ◌&&◌, List, [], ◌∷◌, ◌++◌, length, drop, replicate, slice_index, refl}
use Rattle.std.proofs.Common.{sym, ◌∙◌, ap, arith}
use Rattle.std.specs.List.{list_all}
use Rattle.std.proofs.lemmas.List.{at_drop_more, at_drop_all}
use Rattle.std.proofs.lemmas.Bool.Decides.{nat_tests}
use Rattle.text.specs.Text.{only_zeros}

pub zeros_from_all : (bs : List ℕ) → only_zeros bs ≡ true → bs ≡ replicate (length bs) 0
zeros_from_all [] h = refl
zeros_from_all (b ∷ bs) h =
    let e : b ≡ 0 = grind (arith, nat_tests) in
    let t : only_zeros bs ≡ true = grind (arith, nat_tests) in
    let r = zeros_from_all bs t in
    cc

pub all_zeros : (n : ℕ) → only_zeros (replicate n 0) ≡ true
all_zeros zero = refl
all_zeros (suc n) = all_zeros n

-- the steps of a test of all bytes, from a place on
module _ (p : ℕ → Bool) (bs : List ℕ) (i : ℕ) where
  pub every_stop : i < length bs → p (slice_index bs i) ≡ false → list_all p (drop i bs) ≡ list_all p bs → false ≡ list_all p bs
  every_stop l f e = sym (sym e ∙ (at_drop_more (list_all p) bs i 0 l ∙ ap (λ x. x && list_all p (drop (i + 1) bs)) f))

  pub every_more : i < length bs → p (slice_index bs i) ≡ true → list_all p (drop i bs) ≡ list_all p bs → list_all p (drop (i + 1) bs) ≡ list_all p bs
  every_more l t e = sym (at_drop_more (list_all p) bs i 0 l ∙ ap (λ x. x && list_all p (drop (i + 1) bs)) t) ∙ e

  pub every_end : length bs ≤ i → list_all p (drop i bs) ≡ list_all p bs → true ≡ list_all p bs
  every_end l e = sym (sym e ∙ at_drop_all (list_all p) bs i l)

pub every_append : (p : ℕ → Bool) (bs cs : List ℕ) → list_all p bs ≡ true → list_all p cs ≡ true → list_all p (bs ++ cs) ≡ true
every_append p [] cs h k = k
every_append p (b ∷ bs) cs h k =
    let l : p b ≡ true = grind arith in
    let r : list_all p bs ≡ true = grind arith in
    let e = every_append p bs cs r k in
    grind arith
