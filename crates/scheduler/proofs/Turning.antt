-- What the next move of a cell says of its plan and its step, and what a recording leaves.
use Rattle.std.proofs.Common.{◌≡◌, ℕ, ◌≤◌, Bool, true, false, List, ◌∷◌, map, length, take, Ok, Err, Result, sym, refl, ap, ◌∙◌, arith}
use Rattle.std.proofs.lemmas.Bool.{eq-eqb, le-leb}
use Rattle.interfaces.specs.declared.cell.Cell.{Cell}
use Rattle.interfaces.specs.declared.step.Plan.TheVariants.{Run, Next}
use Rattle.interfaces.specs.declared.step.Plan.TheVariants as plan
use Rattle.interfaces.specs.Cells.{ask_limit, number_of}
use Rattle.interfaces.specs.Tasks.{Act, asks, gives, faults}
use Rattle.interfaces.specs.Traces.{Pair, Trace, Planned, runs, keeps, next, plan_for, pairs_of, recording, after_recording}
use Rattle.past.specs.Past.{changed}
use Rattle.midway.specs.Planning.{Plans, plain_trace}
use Rattle.midway.proofs.Planning.{planned_for}
use Rattle.moves.proofs.Seeing.{but_changed}
use Rattle.moves.specs.declared.answer.Fault.{Fault}
use Rattle.moves.specs.declared.answer.Layer.TheVariants.{Language}
use Rattle.moves.specs.declared.turns.Turn.{Turn}
use Rattle.moves.specs.declared.turns.Turn.TheVariants.{Keep, Begin, Give, Ask}
use Rattle.moves.specs.Moves.{retains, begins, yields, wants, fails, plan_move, step_move, move_of, turn_means}

-- what a cell asks for: in a run by its step, else by the plan
abbrev pub Wants : {V : Type 0} → List (Trace V) → Act V → List (Pair V) → Bool → ℕ → Type 0
Wants traces step pairs true a = step ≡ asks a
Wants traces step pairs false a = Plans traces pairs (next a)

module _ {V : Type 0} where
  plan_wants : (p : Planned V) (a : ℕ) → wants a ≡ plan_move p → next a ≡ p
  plan_wants runs a e = let z : ◌≡◌ {A = ℕ} 0 1 = cc in absurd (omega arith)
  plan_wants (keeps v) a e = let z : ◌≡◌ {A = ℕ} 0 1 = cc in absurd (omega arith)
  plan_wants (next b) a e = cc

  plan_retains : (p : Planned V) (v : V) → retains v ≡ plan_move p → keeps v ≡ p
  plan_retains runs v e = let z : ◌≡◌ {A = ℕ} 0 1 = cc in absurd (omega arith)
  plan_retains (keeps w) v e = cc
  plan_retains (next b) v e = let z : ◌≡◌ {A = ℕ} 0 1 = cc in absurd (omega arith)

  plan_yields : (p : Planned V) (v : V) → yields v ≡ plan_move p → ⊥
  plan_yields runs v e = let z : ◌≡◌ {A = ℕ} 0 1 = cc in omega arith
  plan_yields (keeps w) v e = let z : ◌≡◌ {A = ℕ} 0 1 = cc in omega arith
  plan_yields (next b) v e = let z : ◌≡◌ {A = ℕ} 0 1 = cc in omega arith

  plan_begins : (p : Planned V) → begins ≡ plan_move p → runs ≡ p
  plan_begins runs e = refl
  plan_begins (keeps w) e = let z : ◌≡◌ {A = ℕ} 0 1 = cc in absurd (omega arith)
  plan_begins (next b) e = let z : ◌≡◌ {A = ℕ} 0 1 = cc in absurd (omega arith)

  plan_fails : (p : Planned V) (f : Fault) → fails f ≡ plan_move p → ⊥
  plan_fails runs f e = let z : ◌≡◌ {A = ℕ} 0 1 = cc in omega arith
  plan_fails (keeps w) f e = let z : ◌≡◌ {A = ℕ} 0 1 = cc in omega arith
  plan_fails (next b) f e = let z : ◌≡◌ {A = ℕ} 0 1 = cc in omega arith

  module _ (cell : Cell) (chain : ℕ) where
    step_wants : (s : Act V) (a : ℕ) → wants a ≡ step_move cell chain s → s ≡ asks a
    step_wants (asks b) a e = cc
    step_wants (gives v) a e = let z : ◌≡◌ {A = ℕ} 0 1 = cc in absurd (omega arith)
    step_wants (faults n m) a e = let z : ◌≡◌ {A = ℕ} 0 1 = cc in absurd (omega arith)

    step_yields : (s : Act V) (v : V) → yields v ≡ step_move cell chain s → s ≡ gives v
    step_yields (asks b) v e = let z : ◌≡◌ {A = ℕ} 0 1 = cc in absurd (omega arith)
    step_yields (gives w) v e = cc
    step_yields (faults n m) v e = let z : ◌≡◌ {A = ℕ} 0 1 = cc in absurd (omega arith)

    step_retains : (s : Act V) (v : V) → retains v ≡ step_move cell chain s → ⊥
    step_retains (asks b) v e = let z : ◌≡◌ {A = ℕ} 0 1 = cc in omega arith
    step_retains (gives w) v e = let z : ◌≡◌ {A = ℕ} 0 1 = cc in omega arith
    step_retains (faults n m) v e = let z : ◌≡◌ {A = ℕ} 0 1 = cc in omega arith

    step_begins : (s : Act V) → begins ≡ step_move cell chain s → ⊥
    step_begins (asks b) e = let z : ◌≡◌ {A = ℕ} 0 1 = cc in omega arith
    step_begins (gives w) e = let z : ◌≡◌ {A = ℕ} 0 1 = cc in omega arith
    step_begins (faults n m) e = let z : ◌≡◌ {A = ℕ} 0 1 = cc in omega arith

    step_fails : (s : Act V) (f : Fault) → fails f ≡ step_move cell chain s
        → (s ≡ faults f.number f.mark) × (f ≡ record { number = f.number; mark = f.mark; cell = cell; layer = Language; chain = chain })
    step_fails (asks b) f e = let z : ◌≡◌ {A = ℕ} 0 1 = cc in absurd (omega arith)
    step_fails (gives w) f e = let z : ◌≡◌ {A = ℕ} 0 1 = cc in absurd (omega arith)
    step_fails (faults n m) f e =
        let q : f ≡ record { number = n; mark = m; cell = cell; layer = Language; chain = chain } = cc in
        (λ i. faults (sym q i).number (sym q i).mark, q ∙ (λ i. record { number = (sym q i).number; mark = (sym q i).mark; cell = cell; layer = Language; chain = chain }))

-- the laws of a kind, and the traces and answers of a cell
module _ {V : Type 0} (canon : V → V) (alike : V → V → Bool) (sound : (x y : V) → alike x y ≡ true → canon x ≡ canon y) (whole : (x y : V) → canon x ≡ canon y → alike x y ≡ true)
    (steady : (x : V) → canon (canon x) ≡ canon x) (ts : List (Trace V)) (cs : List Cell) (vs : List V) (len : length cs ≡ length vs) (cell : Cell) (chain : ℕ) (step : Act V) where
  abbrev Moves : Bool → Result (Turn V) Fault → Type 0
  Moves running t = turn_means canon t ≡ move_of cell chain running (plan_for canon alike ts cs vs) step

  wants_by : (running : Bool) (a : Cell) → wants (number_of a) ≡ move_of cell chain running (plan_for canon alike ts cs vs) step → Wants (map (plain_trace canon) ts) step (pairs_of canon cs vs) running (number_of a)
  wants_by true a e = step_wants cell chain step (number_of a) e
  wants_by false a e = planned_for canon alike sound whole steady ts cs vs (Next a) len (plan_wants (plan_for canon alike ts cs vs) (number_of a) e)

  pub wants_is : (running : Bool) (a : Cell) (t : Turn V) → t ≡ Ask a → Moves running (Ok t) → Wants (map (plain_trace canon) ts) step (pairs_of canon cs vs) running (number_of a)
  wants_is running a t i e = wants_by running a (ap (λ z. turn_means canon (Ok z)) (sym i) ∙ e)

  retains_by : (running : Bool) (v : V) → retains (canon v) ≡ move_of cell chain running (plan_for canon alike ts cs vs) step → Plans (map (plain_trace canon) ts) (pairs_of canon cs vs) (keeps (canon v))
  retains_by true v e = absurd (step_retains cell chain step (canon v) e)
  retains_by false v e = planned_for canon alike sound whole steady ts cs vs (plan.Keep v) len (plan_retains (plan_for canon alike ts cs vs) (canon v) e)

  pub retains_is : (running : Bool) (v : V) (t : Turn V) → t ≡ Keep v → Moves running (Ok t) → Plans (map (plain_trace canon) ts) (pairs_of canon cs vs) (keeps (canon v))
  retains_is running v t i e = retains_by running v (ap (λ z. turn_means canon (Ok z)) (sym i) ∙ e)

  yields_by : (running : Bool) (v : V) → yields (canon v) ≡ move_of cell chain running (plan_for canon alike ts cs vs) step → (running ≡ true) × (step ≡ gives (canon v))
  yields_by true v e = (refl, step_yields cell chain step (canon v) e)
  yields_by false v e = absurd (plan_yields (plan_for canon alike ts cs vs) (canon v) e)

  pub yields_is : (running : Bool) (v : V) (t : Turn V) → t ≡ Give v → Moves running (Ok t) → (running ≡ true) × (step ≡ gives (canon v))
  yields_is running v t i e = yields_by running v (ap (λ z. turn_means canon (Ok z)) (sym i) ∙ e)

  begins_by : (running : Bool) → begins ≡ move_of cell chain running (plan_for canon alike ts cs vs) step → Plans (map (plain_trace canon) ts) (pairs_of canon cs vs) runs
  begins_by true e = absurd (step_begins cell chain step e)
  begins_by false e = planned_for canon alike sound whole steady ts cs vs Run len (plan_begins (plan_for canon alike ts cs vs) e)

  pub begins_is : (running : Bool) (t : Turn V) → t ≡ Begin → Moves running (Ok t) → Plans (map (plain_trace canon) ts) (pairs_of canon cs vs) runs
  begins_is running t i e = begins_by running (ap (λ z. turn_means canon (Ok z)) (sym i) ∙ e)

  pub fails_is : (running : Bool) (f : Fault) → Moves running (Err f) → (step ≡ faults f.number f.mark) × (f ≡ record { number = f.number; mark = f.mark; cell = cell; layer = Language; chain = chain })
  fails_is true f e = step_fails cell chain step f e
  fails_is false f e = absurd (plan_fails (plan_for canon alike ts cs vs) f e)

module _ {V : Type 0} (canon : V → V) (cs : List Cell) (vs : List V) (v : V) (len : length cs ≡ length vs) (few : length cs ≤ ask_limit) where
  taken_down : recording canon cs vs v ≡ Ok (record { asks = pairs_of canon cs vs; result = canon v })
  taken_down = rw (eq-eqb (length cs) (length vs) len, le-leb (length cs) ask_limit few) refl

  -- a recording of at most eight pairs is one more trace
  pub recorded : (depth x : ℕ) (traces : ℕ → List (Trace V)) (k : ℕ)
      → after_recording depth (recording canon cs vs v) x traces k ≡ changed x (take depth (record { asks = pairs_of canon cs vs; result = canon v } ∷ traces x)) traces k
  recorded depth x traces k =
      ap (λ z. after_recording depth z x traces k) taken_down ∙ but_changed x (take depth (record { asks = pairs_of canon cs vs; result = canon v } ∷ traces x)) traces k
