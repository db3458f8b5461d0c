use Rattle.std.proofs.Common.{arith}
use Rattle.interfaces.specs.Refusals.{said}
use Rattle.answers.proofs.Said.{said_at, at_short}
use Rattle.answers.proofs.answers.write_refusal.Goals as goal

pub returns-in-Some-clause-short : goal.returns-in-Some-clause-short
returns-in-Some-clause-short c =
    let s = said_at (said c.args.refusal) c.number.result c.in-Some.place c.number.ensures c.in-Some.ensures in
    rw s (at_short c.number.result c.in-Some.place (omega arith) (omega arith))
