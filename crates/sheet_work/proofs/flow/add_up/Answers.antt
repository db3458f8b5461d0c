use Rattle.std.proofs.Common.{◌≡◌, ◌+◌, ◌<◌, ◌≤◌, length, get_or, take, drop, pos, sym, ap, ◌∙◌, arith}
use Rattle.std.proofs.lemmas.Grind.{common_steps}
use Rattle.std.proofs.lemmas.Int.{ints}
use Rattle.interfaces.specs.Cells.{number_of}
use Rattle.interfaces.specs.Tasks.{asks}
use Rattle.whole.specs.Whole.{whole_means}
use Rattle.formula.specs.Meaning.{stops}
use Rattle.sheet_work.proofs.Totals.{total_short, total_again, next_answer, means_within}
use Rattle.sheet_work.proofs.flow.add_up.Goals as goal

pub returns-then-rest-cells : goal.returns-then-rest-cells
returns-then-rest-cells c =
    let e = c.rest_of-rest.ensures in
    let l : length (drop c.args.used c.args.answers.now) < c.args.cells.count = rw e at c.if-rest-cells.true in
    ap (λ k. stops (asks k)) (c.cell.ensures ∙ ap (λ r. number_of c.args.cells.first + length r) e)
    ∙ sym (total_short c.args.mark (number_of c.args.cells.first) c.args.cells.count (pos 0) (drop c.args.used c.args.answers.now) l)

pub loop-answer-preserved : goal.loop-answer-preserved
loop-answer-preserved c =
    let e = c.rest_of-rest.ensures in
    let m : c.args.cells.count ≤ length (drop c.args.used c.args.answers.now) = rw e at c.if-rest-cells.false in
    let k : c.loop-answer.answer-index < c.args.cells.count = grind (arith, common_steps) in
    let v = get_or (take c.args.cells.count (drop c.args.used c.args.answers.now)) c.loop-answer.answer-index (record { value = pos 0 }) in
    let r : c.value.result ≡ whole_means v = c.value.ensures ∙ ap (λ r. whole_means (get_or (take c.args.cells.count r) c.loop-answer.answer-index (record { value = pos 0 }))) e in
    let w = means_within v in
    let t = total_again c.args.mark (number_of c.args.cells.first) c.args.cells.count c.loop-answer.answer-index _ _ v _ _ _
    c.loop-answer.invariant.0 k (next_answer c.args.answers.now c.args.used c.args.cells.count c.loop-answer.answer-index (record { value = pos 0 }) k m)
    (omega (arith, ints)) c.loop-answer.invariant.1 in
    (t.0, t.1, c.loop-answer.invariant.2)
