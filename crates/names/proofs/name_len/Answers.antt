-- A row below ten has one digit, and the others have two.
use Rattle.std.proofs.Common.{arith}
use Rattle.names.proofs.Standing.{short_length, long_length}
use Rattle.names.proofs.name_len.Goals as goal

pub returns-then-row-lt10-clause-all : goal.returns-then-row-lt10-clause-all
returns-then-row-lt10-clause-all c = let l = short_length c.args.row c.if-row-lt10.true in omega arith

pub returns-else-row-lt10-clause-all : goal.returns-else-row-lt10-clause-all
returns-else-row-lt10-clause-all c = let l = long_length c.args.row (omega (arith, c.if-row-lt10.false)) c.requires in omega arith
