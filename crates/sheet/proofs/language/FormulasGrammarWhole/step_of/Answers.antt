use Rattle.std.proofs.Common.{sym, ◌∙◌, rules}
use Rattle.sheet.proofs.Steps.{step_reads}
use Rattle.sheet.proofs.language.FormulasGrammarWhole.step_of.Goals as goal

pub returns-in-Ok : goal.returns-in-Ok
returns-in-Ok c l = c.step_from.ensures c.args.answers.now ∙ sym (step_reads c.args.text.now c.args.answers.now c.in-Ok.got (search rules))
