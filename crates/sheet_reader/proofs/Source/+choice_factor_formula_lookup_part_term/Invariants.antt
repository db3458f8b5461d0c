use Rattle.std.proofs.Common.{◌+◌, ◌-◌, ◌*◌, length}
use Rattle.formula.specs.Reader.{inside}
use Rattle.sheet_reader.specs.Readers.{Took, NoProduct, term_start, term_after, formula_after}
use Rattle.sheet_reader.proofs.Source.+choice_factor_formula_lookup_part_term.Given as goal

abbrev pub decreases-choice : goal.decreases-choice
decreases-choice l = (length l.self.now.text.now - l.at) * 5

abbrev pub decreases-lookup : goal.decreases-lookup
decreases-lookup l = (length l.self.now.text.now - l.at) * 5

abbrev pub decreases-factor : goal.decreases-factor
decreases-factor l = (length l.self.now.text.now - l.at) * 5 + 1

abbrev pub decreases-term : goal.decreases-term
decreases-term l = (length l.self.now.text.now - l.at) * 5 + 2

abbrev pub decreases-formula : goal.decreases-formula
decreases-formula l = (length l.self.now.text.now - l.at) * 5 + 3

abbrev pub decreases-part : goal.decreases-part
decreases-part l = (length l.self.now.text.now - l.at) * 5 + 4

abbrev pub invariant-formula-loop-operator : goal.invariant-formula-loop-operator
invariant-formula-loop-operator l =
    Took inside formula_after l.self.text.now l.at l.self.answers.now l.fn.from l.left l.next
    × NoProduct l.self.text.now l.next

abbrev pub decreases-formula-loop-operator : goal.decreases-formula-loop-operator
decreases-formula-loop-operator l = length l.self.text.now - l.next

abbrev pub invariant-term-loop-operator : goal.invariant-term-loop-operator
invariant-term-loop-operator l =
    Took term_start term_after l.self.text.now l.at l.self.answers.now l.fn.from l.product l.next

abbrev pub decreases-term-loop-operator : goal.decreases-term-loop-operator
decreases-term-loop-operator l = length l.self.text.now - l.next
