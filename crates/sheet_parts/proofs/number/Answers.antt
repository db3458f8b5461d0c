use Rattle.std.proofs.Common.{◌≡◌, ◌+◌, ◌*◌, ◌<◌, Ok, sym, ◌∙◌, arith, rules}
use Rattle.std.proofs.lemmas.Grind.{common_steps}
use Rattle.whole.specs.Whole.{whole_limit}
use Rattle.sheet_parts.specs.Tokens.{number_in}
use Rattle.sheet_parts.proofs.Means.{number_means}
use Rattle.sheet_parts.proofs.Tokens.{digits_large}
use Rattle.sheet_parts.proofs.number.Goals as goal

pub returns-then-first-eq-LONE : goal.returns-then-first-eq-LONE
returns-then-first-eq-LONE c =
    let e : Ok (c.blank_value.result, c.args.at + 1) ≡ number_in c.args.text.now c.args.at = search rules in
    record { reads = e; means = number_means c.args.text.now c.args.at _ e }

pub returns-then-n-from : goal.returns-then-n-from
returns-then-n-from c =
    let l : whole_limit < c.loop-digit.n * 10 + c.in-Some-digit_at.digit = omega arith in
    let e = sym (c.loop-digit.invariant.0 ∙ digits_large c.args.text.now c.loop-digit.next c.loop-digit.n c.in-Some-digit_at.digit c.in-Some-digit_at.ensures.0 l) in
    record { reads = e; means = number_means c.args.text.now c.args.at _ e }

pub returns : goal.returns
returns c =
    let e : Ok (c.whole_of.result, c.loop-digit.next) ≡ number_in c.args.text.now c.args.at = grind (arith, common_steps) in
    record { reads = e; means = number_means c.args.text.now c.args.at _ e }
