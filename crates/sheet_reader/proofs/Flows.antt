-- The work on a formula, part by part: what the parts come to, from where the work had come to before them.
use Rattle.std.proofs.Common.{◌≡◌, ℕ, cond, List, drop, ℤ, Ok, Err, ap, ◌∙◌, arith}
use Rattle.whole.specs.declared.Whole.{Whole}
use Rattle.whole.specs.Whole.{whole_means}
use Rattle.formula.specs.declared.byte.Operator.{Operator}
use Rattle.formula.specs.Grammar.{Tree, negated, joined, choice, lookup}
use Rattle.formula.specs.Meaning.{Outcome, and_then, is_zero, operated, looked_up, work}
use Rattle.sheet_work.specs.Flows.{Flow, Worked, flow_after, outcome_of, go_on, work_from, negation, operation, chosen}

pub negated_flow : (answers : List Whole) (from : Flow) (t : Tree) (w r : Worked) → outcome_of answers w ≡ work_from answers from t
    → outcome_of answers r ≡ and_then (outcome_of answers w) negation → outcome_of answers r ≡ work_from answers from (negated t)
negated_flow answers (Ok used) t w r e f = f ∙ ap (λ o. and_then o negation) e
negated_flow answers (Err s) t w r e f = f ∙ ap (λ o. and_then o negation) e

pub lookup_flow : (answers : List Whole) (from : Flow) (mark : ℕ) (t : Tree) (w r : Worked) → outcome_of answers w ≡ work_from answers from t
    → outcome_of answers r ≡ and_then (outcome_of answers w) (looked_up mark) → outcome_of answers r ≡ work_from answers from (lookup mark t)
lookup_flow answers (Ok used) mark t w r e f = f ∙ ap (λ o. and_then o (looked_up mark)) e
lookup_flow answers (Err s) mark t w r e f = f ∙ ap (λ o. and_then o (looked_up mark)) e

-- what comes after a part, from where that part ended
pub then_flow : (answers : List Whole) (from : Flow) (t : Tree) (w : Worked) (f : ℤ → List Whole → Outcome) → outcome_of answers w ≡ work_from answers from t
    → and_then (outcome_of answers w) f ≡ go_on answers from (λ rest. and_then (work t rest) f)
then_flow answers (Ok used) t w f e = ap (λ o. and_then o f) e
then_flow answers (Err s) t w f e = ap (λ o. and_then o f) e

pub joined_flow : (answers : List Whole) (from flow : Flow) (o : Operator) (mark : ℕ) (t u : Tree) (w x r : Worked) → outcome_of answers w ≡ work_from answers from t
    → flow ≡ flow_after w → outcome_of answers x ≡ work_from answers flow u → outcome_of answers r ≡ operation o mark (outcome_of answers w) (outcome_of answers x)
    → outcome_of answers r ≡ work_from answers from (joined o mark t u)
joined_flow answers (Ok used) flow o mark t u (Ok v) x r e h f g =
    let k : outcome_of answers x ≡ work u (drop v.used answers) = f ∙ ap (λ q. work_from answers q u) h in
    g ∙ (ap (λ y. and_then y (operated o mark (whole_means v.value))) k ∙ ap (λ y. and_then y (λ a rest. and_then (work u rest) (operated o mark a))) e)
joined_flow answers (Ok used) flow o mark t u (Err s) x r e h f g = g ∙ ap (λ y. and_then y (λ a rest. and_then (work u rest) (operated o mark a))) e
joined_flow answers (Err s) flow o mark t u (Ok v) x r e h f g = absurd (let z : ◌≡◌ {A = ℕ} 0 1 = cc in omega arith)
joined_flow answers (Err s) flow o mark t u (Err s') x r e h f g = g ∙ e

pub choice_flow : (answers : List Whole) (from flow : Flow) (t u v : Tree) (w y n r : Worked) → outcome_of answers w ≡ work_from answers from t
    → flow ≡ flow_after w → outcome_of answers y ≡ work_from answers flow u → outcome_of answers n ≡ work_from answers flow v
    → outcome_of answers r ≡ chosen (outcome_of answers w) (outcome_of answers y) (outcome_of answers n) → outcome_of answers r ≡ work_from answers from (choice t u v)
choice_flow answers (Ok used) flow t u v (Ok a) y n r e h f k g =
    let f' : outcome_of answers y ≡ work u (drop a.used answers) = f ∙ ap (λ q. work_from answers q u) h in
    let k' : outcome_of answers n ≡ work v (drop a.used answers) = k ∙ ap (λ q. work_from answers q v) h in
    g ∙ (ap (λ x. cond (is_zero (whole_means a.value)) (outcome_of answers n) x) f'
    ∙ (ap (λ x. cond (is_zero (whole_means a.value)) x (work u (drop a.used answers))) k'
    ∙ ap (λ x. and_then x (λ z rest. cond (is_zero z) (work v rest) (work u rest))) e))
choice_flow answers (Ok used) flow t u v (Err s) y n r e h f k g = g ∙ ap (λ x. and_then x (λ z rest. cond (is_zero z) (work v rest) (work u rest))) e
choice_flow answers (Err s) flow t u v (Ok a) y n r e h f k g = absurd (let z : ◌≡◌ {A = ℕ} 0 1 = cc in omega arith)
choice_flow answers (Err s) flow t u v (Err s') y n r e h f k g = g ∙ e
