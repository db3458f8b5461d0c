use Rattle.interfaces.specs.Refusals.{said}
use Rattle.answers.specs.Answers.{refusal_line}
use Rattle.session.specs.Session.{refused}
use Rattle.session.proofs.answer_line.Goals as goal

pub returns-in-Err-clause-answered : goal.returns-in-Err-clause-answered
returns-in-Err-clause-answered g c =
    let w = c.write_refusal.ensures in
    record { out = refusal_line (said c.in-Err.refusal); answered = refused (said c.in-Err.refusal) c.in-Err.ensures; short = w.short; answer_is = w.answer; left_is = w.left }
