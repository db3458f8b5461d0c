use Rattle.std.proofs.Common.{map, sym, ◌∙◌, arith, rules}
use Rattle.std.proofs.lemmas.List.{length-map}
use Rattle.interfaces.specs.Cells.{number_of}
use Rattle.text.specs.Text.{text_canon, text_means}
use Rattle.fragment.proofs.Running.{answer_there, choice_brings, grew_joined}
use Rattle.fragment.proofs.run.grown_by_choice.Goals as goal

pub returns : goal.returns
returns c =
    let a = answer_there c.args.answers.now 1 c.get.result _ c.in_ok-answer.answer c.get.ensures.lookup (sym c.ok_or-2.ensures.value ∙ c.in_ok-answer.was) in
    let l = a.0 in
    let m = length-map c.args.answers.now text_canon in
    grew_joined _ (text_means c.args.before) _ (map text_canon c.args.answers.now) 2
    (choice_brings (number_of c.args.tested) (number_of c.args.filled) (number_of c.args.empty) c.args.answers.now _ (omega arith) a.1) (omega arith) (omega arith) c.append.result (search rules) c.joined.result (search rules)
