-- What a rebuilder means: traces, and the plan that they give.
use Rattle.std.specs.Prelude.{ℕ, ◌≤◌, Bool, cond, List, [], ◌∷◌, length, take, Ok, Err, Result, ◌==◌, nat_le}
use Rattle.std.proofs.Math.Option.{Option, none, some}
use Rattle.std.specs.List.{AllByRecursion}
use Rattle.interfaces.specs.declared.cell.Cell.{Cell}
use Rattle.interfaces.specs.declared.step.Plan.{Plan}
use Rattle.interfaces.specs.declared.step.Plan.TheVariants.{Run, Keep, Next}
use Rattle.interfaces.specs.Cells.{ask_limit, number_of, but}
use Rattle.interfaces.specs.Refusals.{Said, no}

-- a cell that was asked for, and the value that was answered
pub record Pair (M : Type 0) : Type 0 where
  pub cell : ℕ
  pub value : M

-- the asks of one run, in their order, and its result
pub record Trace (M : Type 0) : Type 0 where
  pub asks : List (Pair M)
  pub result : M

-- at most `depth` traces, each of at most eight pairs
pub record Bounded {M : Type 0} (depth : ℕ) (traces : List (Trace M)) : Type 0 where
  pub few : length traces ≤ depth
  pub short : AllByRecursion (λ (t : Trace M). length t.asks ≤ ask_limit) traces

-- what to do about a cell: run it, keep a value, or ask for a cell first
pub data Planned (M : Type 0) : Type 0 where
  runs : Planned M
  keeps : M → Planned M
  next : ℕ → Planned M

-- what an answered plan means; `canon` gives a value's normal form
abbrev pub plan_means : {V : Type 0} → (V → V) → Plan V → Planned V
plan_means canon Run = runs
plan_means canon (Keep v) = keeps (canon v)
plan_means canon (Next c) = next (number_of c)

-- cells beside values, in normal form
abbrev pub pairs_of : {V : Type 0} → (V → V) → List Cell → List V → List (Pair V)
pairs_of canon [] vs = []
pairs_of canon (c ∷ cs) [] = []
pairs_of canon (c ∷ cs) (v ∷ vs) = record { cell = number_of c; value = canon v } ∷ pairs_of canon cs vs

module _ {M : Type 0} (alike : M → M → Bool) where
  -- the asks that come after these pairs, where they begin with them
  abbrev pub after : List (Pair M) → List (Pair M) → Option (List (Pair M))
  after [] asks = some asks
  after (p ∷ ps) [] = none
  after (p ∷ ps) (q ∷ qs) = cond (p.cell == q.cell) (cond (alike p.value q.value) (after ps qs) none) none

  -- a kept trace whose asks have no rest is kept to; else the older ones decide
  abbrev pub kept_to : Option (List (Pair M)) → M → Option M → Option M
  kept_to none result older = older
  kept_to (some []) result older = some result
  kept_to (some (q ∷ qs)) result older = older

  -- the result of the newest trace that has exactly these pairs
  abbrev pub exact : List (Trace M) → List (Pair M) → Option M
  exact [] ps = none
  exact (t ∷ ts) ps = kept_to (after ps t.asks) t.result (exact ts ps)

  abbrev pub next_of : Option (List (Pair M)) → Option ℕ → Option ℕ
  next_of none older = older
  next_of (some []) older = older
  next_of (some (q ∷ qs)) older = some q.cell

  -- the next cell of the newest trace that begins with these pairs and goes on
  abbrev pub onward : List (Trace M) → List (Pair M) → Option ℕ
  onward [] ps = none
  onward (t ∷ ts) ps = next_of (after ps t.asks) (onward ts ps)

  abbrev pub plan_on : Option ℕ → Planned M
  plan_on none = runs
  plan_on (some c) = next c

  abbrev pub chosen : Option M → Option ℕ → Planned M
  chosen (some v) o = keeps v
  chosen none o = plan_on o

  -- the plan after these pairs: keep the newest trace of exactly these, else ask as the newest
  -- that begins with them asks next, else run
  abbrev pub plan : List (Trace M) → List (Pair M) → Planned M
  plan ts ps = chosen (exact ts ps) (onward ts ps)

-- a plan for lists of unequal length is to run
abbrev pub plan_for : {V : Type 0} → (V → V) → (V → V → Bool) → List (Trace V) → List Cell → List V → Planned V
plan_for canon alike ts cells values =
    cond (length cells == length values) (plan alike ts (pairs_of canon cells values)) runs

-- what recording comes to: a trace, or 9 for more than eight pairs or lists of unequal length
abbrev pub recording : {V : Type 0} → (V → V) → List Cell → List V → V → Result (Trace V) Said
recording canon cells values result =
    cond (length cells == length values)
    (cond (nat_le (length cells) ask_limit) (Ok (record { asks = pairs_of canon cells values; result = canon result })) (Err (no 9)))
    (Err (no 9))

-- the traces after a recording at the cell `c`: one more in front, cut to the depth, or all as they were
abbrev pub after_recording : {M : Type 0} → ℕ → Result (Trace M) Said → ℕ → (ℕ → List (Trace M)) → ℕ → List (Trace M)
after_recording depth (Ok t) c traces k = but c (take depth (t ∷ traces c)) traces k
after_recording depth (Err e) c traces k = traces k
