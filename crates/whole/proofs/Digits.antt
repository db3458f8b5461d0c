-- Numerals digit by digit: which digits are none, and what a loop over digits comes to. Assumes nothing of the bytes.
use Rattle.std.specs.Prelude.{◌≡◌, ℕ, suc, ◌+◌, ◌-◌, ◌*◌, ◌^◌, ◌<◌, ◌≤◌, true, false, List, [], ◌∷◌, length, take, drop, ℤ, pos, negsuc, decimal, int_lt, slice_index, slice_range, unsigned_abs, refl}
use Rattle.std.proofs.Common.{sym, ◌∙◌, ap, arith, length-take, length-drop}
use Rattle.std.specs.Char.{digit_value}
use Rattle.std.specs.Str.Parse.{AllDigits, digits_value}
use Rattle.std.specs.Fmt.{signed_decimal}
use Rattle.std.proofs.lemmas.Fmt.{length-decimal-le, digits_value-decimal, decimal-digits_value, decimal_injective}
use Rattle.std.proofs.lemmas.Int.Digits.{digits_value_more, digits_more}
use Rattle.std.proofs.lemmas.Str.{digit_value_digit}
use Rattle.std.proofs.ByRecursion.{All-get_or}
use Rattle.std.proofs.lemmas.Str.Parse.{IsNumeralModel, numerals_by_value, tells_digits, digits_value_short, digits_value-take-le}
use Rattle.std.proofs.lemmas.List.{take_all}
use Rattle.std.proofs.lemmas.Bool.Decides.{nat_tests}
use Rattle.whole.specs.Whole.{whole_limit, IsDigit, IsNumeral, begun_well, NoNumeral, NoNumber}
use Rattle.whole.proofs.Numerals.{numeral_from_decimal}

-- the words of the standard library, which its lemmas for a loop's step have
theirs : IsNumeralModel (AllDigits 10) (digits_value 10)
theirs = numerals_by_value (AllDigits 10) tells_digits

tail : (b c : ℕ) (bs cs : List ℕ) → ◌≡◌ {A = List ℕ} (b ∷ bs) (c ∷ cs) → bs ≡ cs
tail b c bs cs e = cc

begun : (ds : List ℕ) (n : ℕ) → IsNumeral ds n → begun_well ds ≡ true
begun [] n p = let h : 0 < 0 = p.some in grind arith
begun (d ∷ []) n p = refl
begun (d ∷ e ∷ ds) n p = let h = p.plain in grind (arith, nat_tests)

pub too_long : (ds : List ℕ) → 10 < length ds → NoNumeral ds
too_long ds h n small e = omega (arith, ap length e, length-decimal-le 10 n (omega arith) (omega arith) (omega arith))

pub ill_begun : (ds : List ℕ) → begun_well ds ≡ false → NoNumeral ds
ill_begun ds h n small e =
    let b = begun ds n (numeral_from_decimal n ds small e) in
    let z : true ≡ false = sym b ∙ h in
    grind arith

pub no_digit : (ds : List ℕ) (i : ℕ) → i < length ds → (IsDigit (slice_index ds i) → ⊥) → NoNumeral ds
no_digit ds i l no' n small e = no' (All-get_or IsDigit ds i 0 l (numeral_from_decimal n ds small e).digits)

pub too_large : (ds : List ℕ) → whole_limit < digits_value 10 ds → NoNumeral ds
too_large ds h n small e = omega (arith, ap (digits_value 10) e, digits_value-decimal theirs n (omega arith))

plainly : (ds : List ℕ) → begun_well ds ≡ true → (0 < length ds) × (slice_index ds 0 ≡ 48 → length ds ≡ 1)
plainly [] b = grind arith
plainly (d ∷ []) b = (omega arith, λ _. refl)
plainly (d ∷ e ∷ ds) b = (omega arith, λ f. grind (arith, nat_tests))

pub read_numeral : (ds : List ℕ) (n : ℕ) → n ≡ digits_value 10 ds → n ≤ whole_limit → AllDigits 10 ds → begun_well ds ≡ true → decimal n ≡ ds
read_numeral ds n e h d b =
    let p = plainly ds b in
    ap decimal e ∙ decimal-digits_value theirs ds d p.0 p.1 (omega arith)

-- how digits begin: which beginnings are good, by the length and the first byte
pub ill_empty : (ds : List ℕ) → length ds < 1 → begun_well ds ≡ false
ill_empty [] l = refl
ill_empty (d ∷ ds) l = absurd (omega arith)

pub ill_zero : (ds : List ℕ) → 2 ≤ length ds → slice_index ds 0 ≡ 48 → begun_well ds ≡ false
ill_zero [] l e = absurd (omega arith)
ill_zero (d ∷ []) l e = absurd (omega arith)
ill_zero (d ∷ f ∷ ds) l e = grind (arith, nat_tests)

pub well_lone : (ds : List ℕ) → length ds ≡ 1 → begun_well ds ≡ true
well_lone [] l = absurd (omega arith)
well_lone (d ∷ []) l = refl
well_lone (d ∷ e ∷ ds) l = absurd (omega arith)

pub well_first : (ds : List ℕ) → 1 ≤ length ds → (slice_index ds 0 ≡ 48 → ⊥) → begun_well ds ≡ true
well_first [] l f = absurd (omega arith)
well_first (d ∷ []) l f = refl
well_first (d ∷ e ∷ ds) l f = grind (arith, nat_tests)

-- digits are none where those up to one of them write too large a number already
pub grown_too_large : (ds : List ℕ) (i n d : ℕ) → i < length ds → d ≡ digit_value (slice_index ds i) → n ≡ digits_value 10 (take i ds) → whole_limit < n * 10 + d → NoNumeral ds
grown_too_large ds i n d l e v h =
    let m = digits_value_more 10 ds i l in
    let t = digits_value-take-le 10 ds (i + 1) (omega arith) in
    too_large ds (omega (arith, m, t, e, v, h))

-- a loop over digits: what is read so far is small, and one digit more
pub few : (ds : List ℕ) (i n : ℕ) → length ds ≤ 10 → AllDigits 10 (take i ds) → n ≡ digits_value 10 (take i ds) → n < 10 ^ 10
few ds i n h d e = omega (arith, digits_value_short theirs (take i ds) 10 d (simp length-take (omega arith)))

pub digit_more : (ds : List ℕ) (i n : ℕ) → i < length ds → IsDigit (slice_index ds i) → AllDigits 10 (take i ds) → n ≡ digits_value 10 (take i ds) → AllDigits 10 (take (i + 1) ds) × (n * 10 + (slice_index ds i - 48) ≡ digits_value 10 (take (i + 1) ds))
digit_more ds i n l b d e =
    let v = digit_value_digit (slice_index ds i) b in
    (digits_more 10 ds i l d (omega arith), omega (arith, digits_value_more 10 ds i l))

-- a number that is written with `-` in front has a numeral behind it, of a number above 0
minus : (z : ℤ) (ds : List ℕ) → signed_decimal z ≡ 45 ∷ ds → unsigned_abs z ≤ whole_limit → (0 < unsigned_abs z) × (decimal (unsigned_abs z) ≡ ds)
minus (negsuc n) ds e h = (omega arith, tail _ _ _ _ e)
minus (pos n) ds e h =
    let p = numeral_from_decimal n (45 ∷ ds) h e in
    let d : IsDigit 45 = p.digits.0 in
    (omega arith, grind arith)

pub no_negative : (ds : List ℕ) → NoNumeral ds → NoNumber (45 ∷ ds)
no_negative ds no' z h e = no' (unsigned_abs z) h (minus z ds e h).1

pub no_minus_nought : (ds : List ℕ) → decimal 0 ≡ ds → NoNumber (45 ∷ ds)
no_minus_nought ds e z h f =
    let m = minus z ds f h in
    let s = decimal_injective (unsigned_abs z) 0 (omega arith) (omega arith) (m.1 ∙ sym e) in
    omega arith

-- the two parts of a written number
pub signed_below : (z : ℤ) → int_lt z (pos 0) ≡ true → 45 ∷ decimal (unsigned_abs z) ≡ signed_decimal z
signed_below (pos n) h = grind (arith, nat_tests)
signed_below (negsuc n) h = refl

pub signed_above : (z : ℤ) → int_lt z (pos 0) ≡ false → decimal (unsigned_abs z) ≡ signed_decimal z
signed_above (pos n) h = refl
signed_above (negsuc n) h = grind (arith, nat_tests)

-- the part of an array of ten bytes from a place on
pub digits_part : (ds : List ℕ) (from : ℕ) → length ds ≡ 10 → slice_range ds from 10 ≡ drop from ds
digits_part ds from e = take_all (10 - from) (drop from ds) (simp length-drop (omega arith))

pub after_minus : (bs : List ℕ) → slice_index bs 0 ≡ 45 → 45 ∷ take (length bs - 1) (drop 1 bs) ≡ bs
after_minus [] e = grind arith
after_minus (b ∷ bs) e = rw e (ap (λ (ds : List ℕ). 45 ∷ ds) (take_all (suc (length bs) - 1) bs (omega arith)))
