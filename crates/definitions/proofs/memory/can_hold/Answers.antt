use Rattle.std.proofs.Common.{◌≡◌, ◌∙◌, rules}
use Rattle.definitions.specs.Memory.{zero_in}
use Rattle.definitions.proofs.HeldTexts.{any_zero}
use Rattle.definitions.proofs.memory.can_hold.Goals as goal

pub returns-then-text-le-TEXT : goal.returns-then-text-le-TEXT
returns-then-text-le-TEXT c = let z : c.contains.result ≡ zero_in c.args.text.now = c.contains.ensures.value ∙ any_zero c.args.text.now in rw z (search rules)
