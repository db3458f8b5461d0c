use Rattle.std.proofs.Common.{length, rules}
use Rattle.definitions.proofs.HeldTexts.{text_wiped}
use Rattle.definitions.proofs.memory.TextMemory.wipe.Goals as goal

pub returns-clause-texts : goal.returns-clause-texts
returns-clause-texts c = text_wiped c.fill.new.self (length c.args.self.now.bytes.now) (search rules)
