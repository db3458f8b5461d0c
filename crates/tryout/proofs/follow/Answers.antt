use Rattle.std.proofs.Common.{arith, true-eqb, false-eqb}
use Rattle.tryout.proofs.Steps.{asked, given}
use Rattle.tryout.proofs.follow.Goals as goal

pub returns-then-is_empty : goal.returns-then-is_empty
returns-then-is_empty g c =
    asked g.V.Value.canon g.V.Value.blank c.args.target c.in-Some.c c.args.answers.now c.in-Some.is (true-eqb _ _ c.if-is_empty.ensures)

pub returns : goal.returns
returns g c =
    let e = false-eqb _ _ c.if-is_empty.ensures in
    given g.V.Value.canon g.V.Value.blank c.args.target c.in-Some.c c.args.answers.now _ c.in-Some.is (omega arith) c.index-answers-0.is
