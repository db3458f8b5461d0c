-- The laws of the grammar of formulas. Assumes nothing.
use Rattle.std.proofs.Common.{◌≡◌, ℕ, zero, suc, ◌+◌, ◌/◌, ◌%◌, ◌^◌, ◌<◌, ◌≤◌, true, false, eqb, ltb, List, [], ◌∷◌, ◌++◌, length, decimal, refl, ◌∙◌, arith}
use Rattle.std.proofs.lemmas.Bool.{cond-false, ne_eqb, cond_both}
use Rattle.std.proofs.lemmas.Fmt.{decimal_by_steps}
use Rattle.names.specs.Names.{name_of, row_count}
use Rattle.whole.specs.declared.Whole.{Whole}
use Rattle.definitions.specs.Memory.{zero_in}
use Rattle.formula.specs.declared.byte.Operator.{Operator}
use Rattle.formula.specs.declared.byte.Link.TheVariants.{Weak, Strong}
use Rattle.formula.specs.Bytes.{link_of}
use Rattle.formula.specs.Grammar.{Tree, Formula, a_term, a_sum, Term, a_factor, a_product, Factor, a_number, a_cell, a_minus, a_group, a_choice, a_lookup, a_total}
use Rattle.interfaces.specs.Tasks.{Def, legal, illegal}
use Rattle.formula.specs.Reader.{stands}
use Rattle.formula.proofs.Places.{stands_right_lem}

-- no zero byte
abbrev Positive : List ℕ → Type 0
Positive [] = Unit {0}
Positive (b ∷ bs) = (0 < b) × Positive bs

both_positive : (xs ys : List ℕ) → Positive xs → Positive ys → Positive (xs ++ ys)
both_positive [] ys p q = q
both_positive (x ∷ xs) ys p q = (p.0, both_positive xs ys p.1 q)

no_zero_in : (xs : List ℕ) → Positive xs → zero_in xs ≡ false
no_zero_in [] p = refl
no_zero_in (x ∷ xs) p = let l = p.0 in cond-false (eqb x 0) true (zero_in xs) (ne_eqb x 0 (λ e. omega arith)) ∙ no_zero_in xs p.1

decimal_positive : (n : ℕ) → n < 2 ^ 64 → Positive (decimal n)
decimal_positive = decimal_by_steps (λ n ds. Positive ds) (λ n l. (omega arith, tt)) (λ n ds l p. both_positive ds ((48 + n % 10) ∷ []) p (omega arith, tt))

name_positive : (c : ℕ) → Positive (name_of c)
name_positive c = (
  omega arith,
  cond_both (ltb (c % row_count + 1) 10) ((48 + (c % row_count + 1)) ∷ []) ((48 + (c % row_count + 1) / 10) ∷ (48 + (c % row_count + 1) % 10) ∷ []) Positive
      (λ e. (omega arith, tt)) (λ e. (omega arith, (omega arith, tt))),
)

weak_positive : (b : ℕ) (o : Operator) → link_of b ≡ Weak o → 0 < b
weak_positive zero o e = absurd (let z : ◌≡◌ {A = ℕ} 0 1 = cc in omega arith)
weak_positive (suc b) o e = omega arith

strong_positive : (b : ℕ) (o : Operator) → link_of b ≡ Strong o → 0 < b
strong_positive zero o e = absurd (let z : ◌≡◌ {A = ℕ} 0 1 = cc in omega arith)
strong_positive (suc b) o e = omega arith

mutual
  factor_positive : {at : ℕ} {s : List ℕ} {t : Tree} → Factor at s t → Positive s
  factor_positive (a_number n l) = decimal_positive n (omega arith)
  factor_positive (a_cell c l) = name_positive c
  factor_positive (a_minus f) = (omega arith, factor_positive f)
  factor_positive (a_group {s = s} f) = (omega arith, both_positive s (41 ∷ []) (formula_positive f) (omega arith, tt))
  factor_positive (a_choice {s = s} {s' = s'} {s'' = s''} f g h) = (
    omega arith,
    (
      omega arith,
      (
        omega arith,
        both_positive s (44 ∷ (s' ++ 44 ∷ (s'' ++ 41 ∷ []))) (formula_positive f)
            (omega arith, both_positive s' (44 ∷ (s'' ++ 41 ∷ [])) (formula_positive g) (omega arith, both_positive s'' (41 ∷ []) (formula_positive h) (omega arith, tt))),
      ),
    ),
  )
  factor_positive (a_lookup {s = s} f) = (omega arith, (omega arith, (omega arith, both_positive s (41 ∷ []) (formula_positive f) (omega arith, tt))))
  factor_positive (a_total c d l m n) =
      (omega arith, (omega arith, (omega arith, (omega arith, both_positive (name_of c) (44 ∷ (48 + d) ∷ 41 ∷ []) (name_positive c) (omega arith, (omega arith, (omega arith, tt)))))))

  term_positive : {at : ℕ} {s : List ℕ} {t : Tree} → Term at s t → Positive s
  term_positive (a_factor f) = factor_positive f
  term_positive (a_product {s = s} {s' = s'} b o e f g) = both_positive s (b ∷ s') (term_positive f) (strong_positive b o e, factor_positive g)

  formula_positive : {at : ℕ} {s : List ℕ} {t : Tree} → Formula at s t → Positive s
  formula_positive (a_term f) = term_positive f
  formula_positive (a_sum {s = s} {s' = s'} b o e f g) = both_positive s (b ∷ s') (formula_positive f) (weak_positive b o e, term_positive g)

-- a formula has no zero byte, so memory holds it as it is
pub formula_full : (text : List ℕ) (d : Def Whole) → stands text ≡ legal d → zero_in text ≡ false
formula_full text d e = no_zero_in text (formula_positive ((stands_right_lem text).legal_only d e).1)

-- a text that is no formula goes wrong in it, or at its end
pub formula_within : (text : List ℕ) (place : ℕ) → stands text ≡ illegal place → place ≤ length text
formula_within text place e = ((stands_right_lem text).illegal_only place e).fits
