use Rattle.std.proofs.Common.{◌≡◌, ◌+◌, ◌<◌, ◌≤◌, length, drop}
use Rattle.sheet_parts.specs.Tokens.{spelled}
use Rattle.sheet_parts.proofs.spell.Given as goal

abbrev pub invariant-loop-i : goal.invariant-loop-i
invariant-loop-i l = (spelled l.text l.at l.word ≡ spelled l.text (l.at + l.i) (drop l.i l.word)) × (0 < l.i → l.at + l.i ≤ length l.text)
