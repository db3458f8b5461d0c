use Rattle.std.proofs.Common.{ap}
use Rattle.interfaces.specs.Cells.{number_of}
use Rattle.interfaces.specs.Refusals.{told}
use Rattle.answers.specs.Answers.{value_line}
use Rattle.script.specs.Lines.{asked}
use Rattle.session.specs.Session.{line_of_answer, edited}
use Rattle.session.proofs.Running.{shows_as}
use Rattle.session.proofs.serve.Goals as goal

pub returns-in-Get-clause-answered : goal.returns-in-Get-clause-answered
returns-in-Get-clause-answered g c line a =
    let w = c.write_value.ensures in
    let v = c.read.result in
    let n = number_of c.in-Get.cell in
    record {
      out = value_line n (g.P.Printed.written v);
      answered = shows_as g.P.Printed.written g.P.Printed.unread g.P.Value.canon (g.S.Store.locked c.args.store.now) _ line n v a.short (rw (ap asked c.in-Get.is) at a.reads)
          (g.met.P.Printed.one_form v) c.read.ensures;
      short = w.short;
      answer_is = w.answer;
      left_is = w.left;
    }

pub returns-in-Set-clause-answered : goal.returns-in-Set-clause-answered
returns-in-Set-clause-answered g c line a =
    let w = c.write_outcome.ensures in
    record {
      out = line_of_answer (told c.edit_written.result);
      answered = edited (number_of c.in-Set.cell) c.in-Set.value.now _ _ a.short (rw (ap asked c.in-Set.is) at a.reads) c.edit_written.ensures.edited;
      short = w.short;
      answer_is = w.answer;
      left_is = w.left;
    }
