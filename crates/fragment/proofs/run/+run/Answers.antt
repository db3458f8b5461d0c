use Rattle.std.proofs.Common.{map, subst, arith, rules}
use Rattle.interfaces.specs.Tasks.{step_means}
use Rattle.text.specs.Text.{text_means, text_canon}
use Rattle.fragment.specs.Readings.{item_means}
use Rattle.fragment.specs.Steps.{RunsAs}
use Rattle.fragment.proofs.Placing.{item_next, item_astray}
use Rattle.fragment.proofs.Running.{run_end, run_astray, run_asks, run_overflows, run_joined, answers_left}
use Rattle.fragment.proofs.run.+run.Goals as goal

pub returns-then-at-text : goal.returns-then-at-text
returns-then-at-text t c = run_end c.args.text.now c.args.at c.args.before (map text_canon c.args.answers.now) (omega arith)

pub returns-in_default : goal.returns-in_default
returns-in_default t c =
    run_astray c.args.text.now c.args.at c.in_default.field-0 (text_means c.args.before) (map text_canon c.args.answers.now) _
    (item_astray c.args.text.now c.args.at c.if-at-text.false c.in_default.field-0 c.in_default.ensures)

pub grown_by-requires : goal.grown_by-requires
grown_by-requires t c = (item_next c.args.text.now c.args.at c.if-at-text.false (item_means c.in-Ok.item) c.in-Ok.next c.in-Ok.ensures).sound

pub run-requires : goal.run-requires
run-requires t c =
    let n = item_next c.args.text.now c.args.at c.if-at-text.false (item_means c.in-Ok.item) c.in-Ok.next c.in-Ok.ensures in
    let a = n.further_on in let b = n.within in
    search rules

pub returns-in-Err-Asks : goal.returns-in-Err-Asks
returns-in-Err-Asks t c =
    let n = item_next c.args.text.now c.args.at c.if-at-text.false (item_means c.in-Ok.item) c.in-Ok.next c.in-Ok.ensures in
    run_asks c.args.text.now c.args.at _ _ n (text_means c.args.before) (map text_canon c.args.answers.now) _ (rw c.in-Err-Asks.field-0-is at c.in-Err-Asks.ensures)

pub returns-in-Err-Overflows : goal.returns-in-Err-Overflows
returns-in-Err-Overflows t c =
    let n = item_next c.args.text.now c.args.at c.if-at-text.false (item_means c.in-Ok.item) c.in-Ok.next c.in-Ok.ensures in
    let o = rw c.in-Err-Overflows.field-0-is at c.in-Err-Overflows.ensures in
    run_overflows c.args.text.now c.args.at _ _ n (text_means c.args.before) (map text_canon c.args.answers.now) o.0 o.1 o.2 o.3 _ (search rules)

pub returns-in-Ok-grown_by : goal.returns-in-Ok-grown_by
returns-in-Ok-grown_by t c =
    let n = item_next c.args.text.now c.args.at c.if-at-text.false (item_means c.in-Ok.item) c.in-Ok.next c.in-Ok.ensures in
    let j = c.in-Ok-grown_by.ensures in
    run_joined c.args.text.now c.args.at _ _ n (text_means c.args.before) (map text_canon c.args.answers.now) j.0 (text_means c.in-Ok-grown_by.both) _ _ j.1 j.2 j.3
    (subst (λ left. RunsAs c.args.text.now c.in-Ok.next (text_means c.in-Ok-grown_by.both) left (step_means text_canon c.run.result)) (answers_left c.args.answers.now c.in-Ok-grown_by.used) c.run.ensures)
