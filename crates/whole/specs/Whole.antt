-- Whole numbers: their limits, what a record means, and how a number is written.
use Rattle.std.specs.Prelude.{◌≡◌, ℕ, suc, ◌+◌, ◌-◌, ◌*◌, ◌<◌, ◌≤◌, Bool, true, false, cond, not, List, [], ◌∷◌, length, ℤ, pos, negsuc, Some, None, decimal, Option, ◌==◌, ◌≢◌, nat_le, slice_index_or, unsigned_abs}
use Rattle.std.specs.Fmt.{signed_decimal}
use Rattle.std.specs.List.{AllByRecursion}
use Rattle.whole.specs.declared.Whole.{Whole}

-- how far a whole number may lie from 0
abbrev pub whole_limit : ℕ
whole_limit = 1000000000

abbrev pub within_limits : ℤ → Bool
within_limits z = nat_le (unsigned_abs z) whole_limit

-- a number beyond the limits means 0
abbrev pub limited : ℤ → ℤ
limited z = cond (within_limits z) z (pos 0)

abbrev pub whole_blank : Whole
whole_blank = record { value = pos 0 }

-- the number that a record means
abbrev pub whole_means : Whole → ℤ
whole_means w = limited w.value

abbrev pub whole_canon : Whole → Whole
whole_canon w = record { value = whole_means w }

abbrev pub same_number : ℤ → ℤ → Bool
same_number (pos m) (pos n) = m == n
same_number (pos m) (negsuc n) = false
same_number (negsuc m) (pos n) = false
same_number (negsuc m) (negsuc n) = m == n

abbrev pub whole_alike : Whole → Whole → Bool
whole_alike v w = same_number (whole_means v) (whole_means w)

-- the record of a number within the limits
abbrev pub whole_new : ℤ → Option Whole
whole_new z = cond (within_limits z) (Some (record { value = z })) None

-- the bytes that a number is written as
abbrev pub written_whole : ℤ → List ℕ
written_whole z = signed_decimal (limited z)

-- the number that digits write, by Horner's rule, where `n` is that of the digits before them
abbrev pub horner : ℕ → List ℕ → ℕ
horner n [] = n
horner n (b ∷ bs) = horner (n * 10 + (b - 48)) bs

-- a decimal digit, from `0` to `9`
abbrev pub IsDigit : ℕ → Type 0
IsDigit b = (48 ≤ b) × (b ≤ 57)

-- digits, at least one, that write the number `n`; the first is `0` only if it is alone
pub record IsNumeral (ds : List ℕ) (n : ℕ) : Type 0 where
  pub some : 0 < length ds
  pub digits : AllByRecursion IsDigit ds
  pub plain : slice_index_or ds 0 0 ≡ 48 → length ds ≡ 1
  pub value : horner 0 ds ≡ n

-- the written form of a number: a numeral, after `-` where the number lies below 0
abbrev pub IsNumber : List ℕ → ℤ → Type 0
IsNumber bs (pos n) = IsNumeral bs n
IsNumber bs (negsuc n) = (ds : List ℕ) × (bs ≡ 45 ∷ ds) × IsNumeral ds (suc n)

-- within the limits, a number is written as the bytes that are its written form, and as no others
abbrev pub WholeForm : Type 0
WholeForm = (z : ℤ) (bs : List ℕ) → unsigned_abs z ≤ whole_limit → (written_whole z ≡ bs → IsNumber bs z) × (IsNumber bs z → written_whole z ≡ bs)

-- whether digits are some, and begin with `0` only if it is alone
abbrev pub begun_well : List ℕ → Bool
begun_well [] = false
begun_well (d ∷ []) = true
begun_well (d ∷ e ∷ ds) = not (d == 48)

-- digits that no number within the limits is written as
abbrev pub NoNumeral : List ℕ → Type 0
NoNumeral ds = (n : ℕ) → n ≤ whole_limit → decimal n ≢ ds

-- bytes that no number within the limits is written as
abbrev pub NoNumber : List ℕ → Type 0
NoNumber bs = (z : ℤ) → unsigned_abs z ≤ whole_limit → signed_decimal z ≢ bs
