-- The written forms of numbers: what their digits are. Assumes nothing of the bytes.
use Rattle.std.specs.Prelude.{◌≡◌, ℕ, zero, suc, ◌^◌, ◌<◌, ◌≤◌, List, ◌∷◌, length, ℤ, pos, negsuc, decimal, slice_index, unsigned_abs, refl}
use Rattle.std.proofs.Common.{sym, ◌∙◌, ap, subst, arith}
use Rattle.std.specs.Fmt.{signed_decimal}
use Rattle.std.specs.List.{AllByRecursion}
use Rattle.std.proofs.lemmas.Fmt.{decimal_nonempty, decimal_digit, first_decimal, digits_decimal, digits_value-decimal, decimal-digits_value}
use Rattle.std.proofs.lemmas.Str.Parse.{IsNumeralModel, numerals_by_fold}
use Rattle.std.proofs.lemmas.Bool.Decides.{nat_tests}
use Rattle.whole.specs.Whole.{whole_limit, limited, written_whole, horner, IsDigit, IsNumeral, WholeForm}

own : IsNumeralModel (AllByRecursion IsDigit) (horner 0)
own =
    numerals_by_fold (AllByRecursion IsDigit)
    (record {
      empty = tt;
      parts = λ c cs d. ((omega (arith, d.0), omega (arith, d.0)), d.1);
      more = λ c cs k d. ((omega arith, omega arith), d);
    })
    horner
    (record { empty = λ n. refl; more = λ n c cs k. refl })

first : (n : ℕ) → n < 2 ^ 64 → slice_index (decimal n) 0 ≡ 48 → length (decimal n) ≡ 1
first zero small e = ap length (decimal_digit 0 (omega arith))
first (suc n) small e = let h = first_decimal (suc n) (omega arith) small in omega arith

pub numeral_from_decimal : (n : ℕ) (ds : List ℕ) → n ≤ whole_limit → decimal n ≡ ds → IsNumeral ds n
numeral_from_decimal n ds h e =
    let small : n < 2 ^ 64 = omega arith in
    let P : List ℕ → Type 0 = λ ds. IsNumeral ds n in
    subst P e
    (record {
      some = decimal_nonempty n small;
      digits = digits_decimal own n small;
      plain = first n small;
      value = digits_value-decimal own n small;
    })

pub decimal_from_numeral : (n : ℕ) (ds : List ℕ) → n ≤ whole_limit → IsNumeral ds n → decimal n ≡ ds
decimal_from_numeral n ds h p =
    ap decimal (sym p.value) ∙ decimal-digits_value own ds p.digits p.some p.plain (omega (arith, p.value))

pub within : (z : ℤ) → unsigned_abs z ≤ whole_limit → written_whole z ≡ signed_decimal z
within z h = let e : limited z ≡ z = grind (arith, nat_tests) in ap signed_decimal e

pub whole_form_lem : WholeForm
whole_form_lem (pos n) bs h =
    (λ e. numeral_from_decimal n bs h (sym (within (pos n) h) ∙ e), λ p. within (pos n) h ∙ decimal_from_numeral n bs h p)
whole_form_lem (negsuc n) bs h = (
  λ e. (decimal (suc n), sym e ∙ within (negsuc n) h, numeral_from_decimal (suc n) (decimal (suc n)) h refl),
  λ p. within (negsuc n) h ∙ (ap (λ (ds : List ℕ). 45 ∷ ds) (decimal_from_numeral (suc n) p.0 h p.2) ∙ sym p.1),
)
