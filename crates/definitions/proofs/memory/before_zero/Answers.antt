use Rattle.std.proofs.Common.{sym}
use Rattle.definitions.proofs.HeldTexts.{before_found, before_none}
use Rattle.definitions.proofs.memory.before_zero.Goals as goal

pub returns-in-Some : goal.returns-in-Some
returns-in-Some c = before_found c.args.bytes.now c.in-Some.end (sym c.in-Some.ensures)

pub returns-in-None : goal.returns-in-None
returns-in-None c = before_none c.args.bytes.now (sym c.in-None.ensures)
