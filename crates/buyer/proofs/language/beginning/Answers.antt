use Rattle.std.proofs.Common.{◌∙◌, arith}
use Rattle.buyer.proofs.Reading.{right_found, right_few}
use Rattle.buyer.proofs.language.beginning.Goals as goal

pub returns-clause-value : goal.returns-clause-value
returns-clause-value c = c.unwrap_or.ensures ∙ right_found c.args.text.now c.first_wrong.result c.first_wrong.ensures

pub returns-clause-bound : goal.returns-clause-bound
returns-clause-bound c =
    let r = c.unwrap_or.ensures ∙ right_found c.args.text.now c.first_wrong.result c.first_wrong.ensures in
    omega (arith, right_few 0 c.args.text.now (omega arith))
