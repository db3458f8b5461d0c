use Rattle.std.proofs.Common.{sym}
use Rattle.std.proofs.lemmas.Result.{MatchResult-weaker}
use Rattle.sheet_reader.proofs.Exits.{passed_on}
use Rattle.sheet_reader.proofs.Parts.{lookup_word_failed, lookup_part_failed, lookup_took, choice_word_failed, choice_first_failed, choice_second_failed, choice_third_failed, choice_took, negation_took, negation_failed, group_took, group_failed, number_took, number_failed, name_took, cell_failed, other_failed, part_took, part_missed, term_more, term_more_failed, formula_more, formula_more_failed}
use Rattle.sheet_reader.proofs.Source.+choice_factor_formula_lookup_part_term.Goals as goal

-- `if`
pub choice-returns-in_err-first : goal.choice-returns-in_err-first
choice-returns-in_err-first t c = rw (passed_on _ _ c.from_residual.ensures.1)
    (choice_word_failed c.args.self.now.text.now c.args.at c.requires _ c.in_err-first.ensures.reads)

pub choice-returns-in_err-test : goal.choice-returns-in_err-test
choice-returns-in_err-test t c = rw (passed_on _ _ c.from_residual-in_err-test.ensures.1)
    (choice_first_failed c.args.self.now.text.now c.args.at c.requires _ c.in_ok-first.ensures.reads _ c.in_err-test.ensures)

pub choice-returns-in_err-yes : goal.choice-returns-in_err-yes
choice-returns-in_err-yes t c = rw (passed_on _ _ c.from_residual-in_err-yes.ensures.1)
    (choice_second_failed c.args.self.now.text.now c.args.at c.requires _ c.in_ok-first.ensures.reads c.args.self.now.answers.now c.args.from _ c.in_ok-test.test _ c.in_ok-test.ensures c.flow_after-then.ensures _ c.in_err-yes.ensures)

pub choice-returns-in_err-no : goal.choice-returns-in_err-no
choice-returns-in_err-no t c = rw (passed_on _ _ c.from_residual-in_err-no.ensures.1)
    (choice_third_failed c.args.self.now.text.now c.args.at c.requires _ c.in_ok-first.ensures.reads c.args.self.now.answers.now c.args.from _ c.in_ok-test.test _ c.in_ok-test.ensures c.flow_after-then.ensures c.in_ok-yes.yes _ c.in_ok-yes.ensures _ c.in_err-no.ensures)

pub choice-returns : goal.choice-returns
choice-returns t c = choice_took c.args.self.now.text.now c.args.at c.requires _ c.in_ok-first.ensures.reads c.args.self.now.answers.now c.args.from _ c.in_ok-test.test _ c.in_ok-test.ensures c.flow_after-then.ensures c.in_ok-yes.yes _ c.in_ok-yes.ensures c.in_ok-no.no _ c.in_ok-no.ensures c.choose.result (c.choose.ensures c.args.self.now.answers.now)

-- `at`
pub lookup-returns-in_err-first : goal.lookup-returns-in_err-first
lookup-returns-in_err-first t c = rw (passed_on _ _ c.from_residual.ensures.1)
    (lookup_word_failed c.args.self.now.text.now c.args.at c.requires _ c.in_err-first.ensures.reads)

pub lookup-returns-in_err-place : goal.lookup-returns-in_err-place
lookup-returns-in_err-place t c = rw (passed_on _ _ c.from_residual-in_err-place.ensures.1)
    (lookup_part_failed c.args.self.now.text.now c.args.at c.requires _ c.in_ok-first.ensures.reads _ c.in_err-place.ensures)

pub lookup-returns : goal.lookup-returns
lookup-returns t c = lookup_took c.args.self.now.text.now c.args.at c.requires _ c.in_ok-first.ensures.reads _ c.args.self.now.answers.now c.args.from c.in_ok-place.place c.look_up.result c.in_ok-place.ensures c.look_up.ensures

-- factors
pub factor-returns-in_err-operand-in-Negation : goal.factor-returns-in_err-operand-in-Negation
factor-returns-in_err-operand-in-Negation t c = rw (passed_on _ _ c.from_residual.ensures.1)
    (negation_failed c.args.self.now.text.now c.args.at _ (sym c.in-Negation.ensures) c.in_err-operand-in-Negation.ensures)

pub factor-returns-in_err-cell-in-Column : goal.factor-returns-in_err-cell-in-Column
factor-returns-in_err-cell-in-Column t c = rw (passed_on _ _ c.from_residual-in_err-cell-in-Column.ensures.1)
    (cell_failed c.args.self.now.text.now c.args.at _ _ (sym c.in-Column.ensures) c.in_err-cell-in-Column.ensures.reads)

pub factor-returns-in_ok-operand-in-Negation : goal.factor-returns-in_ok-operand-in-Negation
factor-returns-in_ok-operand-in-Negation t c = negation_took c.args.self.now.text.now c.args.at c.args.self.now.answers.now c.args.from c.in_ok-operand-in-Negation.operand c.negate.result _ (sym c.in-Negation.ensures) c.in_ok-operand-in-Negation.ensures (c.negate.ensures c.args.self.now.answers.now)

pub factor-returns-in-Group : goal.factor-returns-in-Group
factor-returns-in-Group t c = MatchResult-weaker c.part.result c.part.ensures
    (λ p. group_took c.args.self.now.text.now c.args.at c.args.self.now.answers.now c.args.from p.0 p.1 (sym c.in-Group.ensures)) (λ place. group_failed c.args.self.now.text.now c.args.at place (sym c.in-Group.ensures))

pub factor-returns-in_err-value-in-Digit : goal.factor-returns-in_err-value-in-Digit
factor-returns-in_err-value-in-Digit t c = rw (passed_on _ _ c.from_residual-in_err-value-in-Digit.ensures.1)
    (number_failed c.args.self.now.text.now c.args.at _ _ (sym c.in-Digit.ensures) c.in_err-value-in-Digit.ensures.reads)

pub factor-returns-in_ok-value-in-Digit : goal.factor-returns-in_ok-value-in-Digit
factor-returns-in_ok-value-in-Digit t c = number_took c.args.self.now.text.now c.args.at _ c.in_ok-value-in-Digit.value _ c.args.self.now.answers.now c.args.from c.constant.result (sym c.in-Digit.ensures) c.in_ok-value-in-Digit.ensures.reads (c.constant.ensures c.args.self.now.answers.now)

pub factor-returns-in_ok-cell-in-Column : goal.factor-returns-in_ok-cell-in-Column
factor-returns-in_ok-cell-in-Column t c = name_took c.args.self.now.text.now c.args.at _ _ _ c.args.self.now.answers.now c.args.from c.ask.result (sym c.in-Column.ensures) c.in_ok-cell-in-Column.ensures.reads c.ask.ensures

pub factor-returns-in-Other : goal.factor-returns-in-Other
factor-returns-in-Other t c = other_failed c.args.self.now.text.now c.args.at c.requires (sym c.in-Other.ensures)

-- a formula and the byte that ends it
pub part-returns-in_err-end : goal.part-returns-in_err-end
part-returns-in_err-end t c = rw (passed_on _ _ c.from_residual-in_err-end.ensures.1)
    (part_missed c.args.self.now.text.now c.args.at c.args.byte c.in_ok-got.next _ c.args.self.now.answers.now c.args.from c.in_ok-got.got c.in_ok-got.ensures.0 c.in_ok-got.ensures.1 c.requires.1 c.in_err-end.ensures.reads)

pub part-returns : goal.part-returns
part-returns t c = part_took c.args.self.now.text.now c.args.at c.args.byte c.in_ok-got.next _ c.args.self.now.answers.now c.args.from c.in_ok-got.got c.in_ok-got.ensures.0 c.in_ok-got.ensures.1 c.requires.1 c.in_ok-end.ensures.reads

-- factors joined
pub term-returns-in_err-right : goal.term-returns-in_err-right
term-returns-in_err-right t c = rw (passed_on _ _ c.from_residual-in_err-right.ensures.1)
    (term_more_failed c.args.self.now.text.now c.args.at c.loop-operator.next c.args.self.now.answers.now c.args.from c.loop-operator.product c.in-Strong.operator c.loop-operator.invariant (sym c.in-Strong.ensures) _ c.in_err-right.ensures)

pub term-loop-operator-preserved : goal.term-loop-operator-preserved
term-loop-operator-preserved t c =
    term_more c.args.self.now.text.now c.args.at c.loop-operator.next c.args.self.now.answers.now c.args.from c.loop-operator.product c.in-Strong.operator c.loop-operator.invariant (sym c.in-Strong.ensures) _ _ c.in_ok-right.right c.operate-product.result c.flow_after.ensures c.in_ok-right.ensures (c.operate-product.ensures c.args.self.now.answers.now)

-- terms joined
pub formula-returns-in_err-right : goal.formula-returns-in_err-right
formula-returns-in_err-right t c = rw (passed_on _ _ c.from_residual-in_err-right.ensures.1)
    (formula_more_failed c.args.self.now.text.now c.args.at c.loop-operator.next c.args.self.now.answers.now c.args.from c.loop-operator.left c.in-Weak.operator c.loop-operator.invariant.0 (sym c.in-Weak.ensures) _ c.in_err-right.ensures)

pub formula-loop-operator-preserved : goal.formula-loop-operator-preserved
formula-loop-operator-preserved t c = (
  formula_more c.args.self.now.text.now c.args.at c.loop-operator.next c.args.self.now.answers.now c.args.from c.loop-operator.left c.in-Weak.operator c.loop-operator.invariant.0 (sym c.in-Weak.ensures) _ _ c.in_ok-right.right c.operate-left.result c.flow_after.ensures c.in_ok-right.ensures.0 c.in_ok-right.ensures.1 (c.operate-left.ensures c.args.self.now.answers.now),
  c.in_ok-right.ensures.1,
)
