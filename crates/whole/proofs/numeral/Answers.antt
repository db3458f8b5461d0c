-- The number that digits write, and why each way out without one is right. Assumes nothing of the bytes.
use Rattle.std.proofs.Common.{◌≡◌, slice_index, refl, ap, ◌∙◌, ⊎_elim, arith}
use Rattle.std.specs.Str.Parse.{AllDigits, digits_value}
use Rattle.std.proofs.lemmas.Str.{digit_value_digit}
use Rattle.std.proofs.lemmas.Int.Digits.{digits_value_more, digits_more}
use Rattle.std.proofs.lemmas.List.{take_all}
use Rattle.whole.proofs.Digits.{ill_empty, ill_zero, well_lone, well_first, grown_too_large, ill_begun, no_digit, too_large, read_numeral}
use Rattle.whole.proofs.numeral.Goals as goal
use Rattle.whole.proofs.numeral.Goals.{in_default, in_default-2}

pub returns-in-empty : goal.returns-in-empty
returns-in-empty c = ill_begun c.args.digits.now (ill_empty c.args.digits.now c.in-empty.len_below)

pub returns-in-empty-2 : goal.returns-in-empty-2
returns-in-empty-2 c = ill_begun c.args.digits.now (ill_zero c.args.digits.now c.in-empty.len_at_least (omega arith))

pub loop-digit-init : goal.loop-digit-init
loop-digit-init c = (tt, refl)

pub returns-then-not-is_ascii_digit : goal.returns-then-not-is_ascii_digit
returns-then-not-is_ascii_digit c =
    no_digit c.args.digits.now c.loop-digit.digit-index c.loop-digit-test.true
    (λ h. ⊎_elim (λ l. omega (arith, l, h.0)) (λ g. omega (arith, g, h.1)) c.if-not-is_ascii_digit.ensures.cases)

pub returns-in_err-checked_mul : goal.returns-in_err-checked_mul
returns-in_err-checked_mul c =
    rw c.from_residual.ensures
    (grown_too_large c.args.digits.now c.loop-digit.digit-index c.loop-digit.n _ c.loop-digit-test.true refl c.loop-digit.invariant.1 (omega (arith, c.in_err-checked_mul.ensures)))

pub returns-in_err-n : goal.returns-in_err-n
returns-in_err-n c =
    let v = digit_value_digit (slice_index c.args.digits.now c.loop-digit.digit-index) c.if-not-is_ascii_digit.ensures.cases in
    rw c.from_residual-in_err-n.ensures
    (grown_too_large c.args.digits.now c.loop-digit.digit-index c.loop-digit.n c.from.result c.loop-digit-test.true (omega (arith, c.from.ensures, v)) c.loop-digit.invariant.1 (omega (arith, c.in_err-n.ensures, c.in_ok-checked_mul.ensures.1)))

pub loop-digit-preserved : goal.loop-digit-preserved
loop-digit-preserved c =
    let i = c.loop-digit.invariant in
    let v = digit_value_digit (slice_index c.args.digits.now c.loop-digit.digit-index) c.if-not-is_ascii_digit.ensures.cases in
    let m = digits_value_more 10 c.args.digits.now c.loop-digit.digit-index c.loop-digit-test.true in (
      digits_more 10 c.args.digits.now c.loop-digit.digit-index c.loop-digit-test.true i.0 c.if-not-is_ascii_digit.ensures.bound,
      omega (arith, c.in_ok-n.ensures.1, c.in_ok-checked_mul.ensures.1, c.from.ensures, v, m, i.1),
    )

pub returns-then-n-le-LIMIT : goal.returns-then-n-le-LIMIT
returns-then-n-le-LIMIT c =
    let i = c.loop-digit.invariant in
    let e = take_all c.loop-digit.digit-index c.args.digits.now c.loop-digit-test.false in
    let v : c.loop-digit.n ≡ digits_value 10 c.args.digits.now = i.1 ∙ ap (digits_value 10) e in
    let d : AllDigits 10 c.args.digits.now = rw e at i.0 in (
      omega arith,
      read_numeral c.args.digits.now c.loop-digit.n v (omega arith) d
          (elim c.if-digits-lt2.branch [
            | in_default w ↦ well_lone c.args.digits.now (omega (arith, w.in_default.len_below, w.in_default.len_at_least))
            | in_default-2 w ↦ well_first c.args.digits.now (omega (arith, w.in_default.len_at_least)) (λ h. omega (arith, h))
          ]),
    )

pub returns-else-n-le-LIMIT : goal.returns-else-n-le-LIMIT
returns-else-n-le-LIMIT c =
    let i = c.loop-digit.invariant in
    let e = take_all c.loop-digit.digit-index c.args.digits.now c.loop-digit-test.false in
    let v : c.loop-digit.n ≡ digits_value 10 c.args.digits.now = i.1 ∙ ap (digits_value 10) e in
    too_large c.args.digits.now (omega arith)
