-- What the work on a formula means, while the formula is read.
use Rattle.std.specs.Prelude.{ℕ, cond, List, drop, ℤ, neg_ℤ, Ok, Err, Result}
use Rattle.interfaces.specs.declared.step.Step.{Step}
use Rattle.interfaces.specs.Tasks.{step_means}
use Rattle.whole.specs.declared.Whole.{Whole}
use Rattle.whole.specs.Whole.{whole_canon, whole_means}
use Rattle.formula.specs.declared.byte.Operator.{Operator}
use Rattle.formula.specs.Grammar.{Tree}
use Rattle.formula.specs.Meaning.{Outcome, value, stops, and_then, is_zero, operated, work}
use Rattle.sheet_work.specs.declared.flow.Valued.{Valued}

-- so many answers are used, or the step is known
abbrev pub Flow : Type 0
Flow = Result ℕ (Step Whole)

-- a value, or the step that is known
abbrev pub Worked : Type 0
Worked = Result Valued (Step Whole)

-- where the work goes on behind a part
abbrev pub flow_after : Worked → Flow
flow_after (Ok v) = Ok v.used
flow_after (Err s) = Err s

-- goes on with the answers that are not used yet, unless the step is known
abbrev pub go_on : List Whole → Flow → (List Whole → Outcome) → Outcome
go_on answers (Ok used) f = f (drop used answers)
go_on answers (Err s) f = stops (step_means whole_canon s)

-- what a part comes to
abbrev pub outcome_of : List Whole → Worked → Outcome
outcome_of answers (Ok v) = value (whole_means v.value) (drop v.used answers)
outcome_of answers (Err s) = stops (step_means whole_canon s)

-- what a formula comes to from there on
abbrev pub work_from : List Whole → Flow → Tree → Outcome
work_from answers flow t = go_on answers flow (work t)

abbrev pub negation : ℤ → List Whole → Outcome
negation z rest = value (neg_ℤ z) rest

-- an operator between two parts that are worked out
abbrev pub operation : Operator → ℕ → Outcome → Outcome → Outcome
operation o mark left right = and_then left (λ x rest. and_then right (operated o mark x))

-- the first part chooses which of the others counts
abbrev pub chosen : Outcome → Outcome → Outcome → Outcome
chosen test met missed = and_then test (λ z rest. cond (is_zero z) missed met)
