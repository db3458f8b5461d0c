use Rattle.std.proofs.Common.{◌≡◌, ◌-◌, ◌≤◌, length, drop}
use Rattle.whole.specs.Whole.{whole_limit}
use Rattle.sheet_parts.specs.Tokens.{number_in, digits_from}
use Rattle.sheet_parts.proofs.number.Given as goal

abbrev pub invariant-loop-digit : goal.invariant-loop-digit
invariant-loop-digit l = (number_in l.text l.at ≡ digits_from l.next l.n (drop l.next l.text)) × (l.n ≤ whole_limit) × (l.next ≤ length l.text)

abbrev pub decreases-loop-digit : goal.decreases-loop-digit
decreases-loop-digit l = length l.text - l.next
