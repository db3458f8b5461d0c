-- A number is known from its written form. Assumes nothing of a record.
use Rattle.std.specs.Prelude.{◌≡◌, ◌^◌, ◌<◌, ℤ, pos, negsuc}
use Rattle.std.proofs.Common.{arith}
use Rattle.std.specs.Int.Signed.{mag}
use Rattle.std.proofs.lemmas.Fmt.{signed_decimal_injective}
use Rattle.std.proofs.lemmas.Bool.Decides.{nat_tests}
use Rattle.whole.specs.Whole.{limited, written_whole, whole_canon}
use Rattle.whole.specs.declared.Whole.{Whole}

limited_small : (z : ℤ) → mag (limited z) < 2 ^ 63
limited_small (pos n) = grind (arith, nat_tests)
limited_small (negsuc n) = grind (arith, nat_tests)

pub same_meaning : (x y : Whole) → written_whole x.value ≡ written_whole y.value → whole_canon x ≡ whole_canon y
same_meaning x y e =
    let h = signed_decimal_injective (limited x.value) (limited y.value) (limited_small x.value) (limited_small y.value) e in
    cc
