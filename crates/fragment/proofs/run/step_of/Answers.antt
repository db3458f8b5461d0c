use Rattle.std.proofs.Common.{map, ap, ◌∙◌}
use Rattle.text.specs.Text.{text_means, text_canon}
use Rattle.fragment_grammar.specs.Meaning.{runs}
use Rattle.fragment_grammar.specs.Reader.{rows}
use Rattle.fragment.proofs.Placing.{answer_row}
use Rattle.fragment.proofs.Running.{blank_empty, step_legal}
use Rattle.fragment.proofs.run.step_of.Goals as goal

pub returns-in-Ok : goal.returns-in-Ok
returns-in-Ok c l =
    let r = answer_row (rows 0 0 c.args.text.now) _ c.in-Ok.ensures in
    step_legal c.args.text.now r.0 (map text_canon c.args.answers.now) _ r.1
    (c.run.ensures r.0 r.1 ∙ ap (λ b. runs 0 b r.0 (map text_canon c.args.answers.now)) (ap text_means c.blank_value-in-Ok.ensures ∙ blank_empty))
