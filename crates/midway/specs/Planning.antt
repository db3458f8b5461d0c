-- The plan for a cell in doubt, in the words of its kept traces.
use Rattle.std.specs.Prelude.{◌≡◌, List, ◌∷◌, ◌++◌, map}
use Rattle.interfaces.specs.Traces.{Pair, Trace, Planned, runs, keeps, next}
use Rattle.past.specs.Afresh.{In}

module _ {M : Type 0} where
  -- the trace begins with these pairs
  pub record Begins (pairs : List (Pair M)) (t : Trace M) : Type 0 where
    pub rest : List (Pair M)
    pub is : t.asks ≡ pairs ++ rest

  -- what the traces, newest first, say to do after these pairs
  pub data Plans (ts : List (Trace M)) (pairs : List (Pair M)) : Planned M → Type 0 where
    -- no trace begins so: run
    to_run : ((t : Trace M) → In t ts → ¬ Begins pairs t) → Plans ts pairs runs
    -- the newest trace of exactly these pairs is kept
    to_keep : (t : Trace M) (newer older : List (Trace M)) → ts ≡ newer ++ (t ∷ older) → t.asks ≡ pairs
        → ((u : Trace M) → In u newer → ¬ (u.asks ≡ pairs)) → Plans ts pairs (keeps t.result)
    -- no trace has exactly these pairs, and the newest that begins with them asks next
    to_ask : (t : Trace M) (newer older : List (Trace M)) (q : Pair M) (rest : List (Pair M))
        → ((u : Trace M) → In u ts → ¬ (u.asks ≡ pairs)) → ts ≡ newer ++ (t ∷ older) → t.asks ≡ pairs ++ (q ∷ rest)
        → ((u : Trace M) → In u newer → ¬ Begins pairs u) → Plans ts pairs (next q.cell)

-- normal forms of a pair, of a trace and of a plan; `canon` gives that of a value
module _ {V : Type 0} (canon : V → V) where
  abbrev pub plain_pair : Pair V → Pair V
  plain_pair q = record { cell = q.cell; value = canon q.value }

  abbrev pub plain_trace : Trace V → Trace V
  plain_trace t = record { asks = map plain_pair t.asks; result = canon t.result }

  abbrev pub plain_plan : Planned V → Planned V
  plain_plan runs = runs
  plain_plan (keeps v) = keeps (canon v)
  plain_plan (next c) = next c
