-- No number is written as a sign before digits that are no numeral, or before `0`.
use Rattle.std.proofs.Common.{sym, ap, ◌∙◌, decimal}
use Rattle.whole.proofs.Digits.{no_negative, no_minus_nought}
use Rattle.whole.proofs.negative.Goals as goal

pub returns-in_err-n : goal.returns-in_err-n
returns-in_err-n c = rw c.from_residual.ensures (no_negative c.args.digits.now c.in_err-n.ensures)

pub returns-in-0 : goal.returns-in-0
returns-in-0 c = no_minus_nought c.args.digits.now (ap decimal (sym c.in-0.is) ∙ c.in_ok-n.ensures.1)
