use Rattle.std.proofs.Common.{sym, ap, ◌∙◌, arith, rules}
use Rattle.std.proofs.lemmas.Result.{err_from_is_err_and}
use Rattle.fragment.specs.Readings.{row_answer}
use Rattle.fragment.proofs.Placing.{item_next, item_astray, row_fronted}
use Rattle.fragment.proofs.item.+row_from.Goals as goal

pub returns-in_err-next : goal.returns-in_err-next
returns-in_err-next t c =
    let p = err_from_is_err_and c.from_residual.result c.from_residual.ensures.1 in
    rw (p.1, p.2) (sym (ap row_answer (item_astray c.args.text.now c.args.at (omega arith) _ c.in_err-next.ensures)))

pub row_from-requires : goal.row_from-requires
row_from-requires t c =
    let n = item_next c.args.text.now c.args.at c.if-at-text.false _ _ c.in_ok-next.ensures in
    let a = n.further_on in let b = n.within in
    search rules

pub returns : goal.returns
returns t c =
    let n = item_next c.args.text.now c.args.at c.if-at-text.false _ _ c.in_ok-next.ensures in
    c.row_from.ensures ∙ row_fronted _ _ ∙ sym (ap row_answer n.row_on)
