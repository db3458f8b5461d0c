use Rattle.std.proofs.Common.{◌≡◌, ◌+◌, ◌-◌, ◌*◌, ◌≤◌, take, drop, pos, nat_abs}
use Rattle.interfaces.specs.Cells.{number_of}
use Rattle.whole.specs.Whole.{whole_limit}
use Rattle.formula.specs.Meaning.{totalled}
use Rattle.sheet_work.proofs.flow.add_up.Given as goal

abbrev pub invariant-loop-answer : goal.invariant-loop-answer
invariant-loop-answer l =
    (totalled l.mark (number_of l.cells.first + l.answer-index) (l.cells.count - l.answer-index) l.sum (drop (l.used + l.answer-index) l.answers)
    ≡ totalled l.mark (number_of l.cells.first) l.cells.count (pos 0) (drop l.used l.answers))
    × (nat_abs l.sum ≤ l.answer-index * whole_limit)
    × (l.answer-items ≡ take l.cells.count (drop l.used l.answers))
