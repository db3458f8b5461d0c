-- There is an outcome.
use Rattle.std.proofs.Common.{◌≡◌, ℕ, zero, suc, ◌+◌, ◌<◌, ◌≤◌, List, [], ◌∷◌, ◌++◌, length, refl, arith, length-append}
use mathlib.Core.Option.{Option, none, some}
use native.Mathlib.Decide.{dec_lt}
use Rattle.interfaces.specs.Cells.{cell_count, ask_limit}
use Rattle.interfaces.specs.Tasks.{Act, asks, gives, faults, Def}
use Rattle.interfaces.specs.Traces.{Pair}
use Rattle.past.specs.Afresh.{In, State, Finishing, Outcome, gave, fault, values, Steps, finishes, breaks, ninth, circle, reads, descends, sinks, Afresh, input, worked}
use Rattle.past.proofs.Lists.{dec_in, free, free_fewer}
use Rattle.past.proofs.Alone.{none_some}

module _ {M : Type 0} (b : State M) (bound : (c : ℕ) → cell_count ≤ c → b.defs c ≡ none) where
  Ends : List ℕ → ℕ → Def M → List (Pair M) → Type 0
  Ends path c d x = (l : List (Finishing M)) × (o : Outcome M) × Steps b path c d x l o

  pub below_count : {a : ℕ} {e : Def M} → b.defs a ≡ some e → a < cell_count
  below_count {a} s = go (dec_lt a cell_count)
    where
      go : Dec (a < cell_count) → a < cell_count
      go (yes h) = h
      go (no n) = absurd (none_some b refl (bound a (omega arith)) s)

  module _ (path : List ℕ) (c : ℕ) (d : Def M) (below : (a : ℕ) (e : Def M) → b.defs a ≡ some e → ¬ In a path → Ends (path ++ (a ∷ [])) a e []) where
    pushed : (r : ℕ) (x : List (Pair M)) (y : Pair M) → length x + suc r ≡ ask_limit → length (x ++ (y ∷ [])) + r ≡ ask_limit
    pushed r x y h = omega (arith, length-append x (y ∷ []))

    -- the step after the ask for the cell a, by what a is; `on` works out the rest with one ask fewer
    asked : (r : ℕ) {a : ℕ} (x : List (Pair M)) → length x + suc r ≡ ask_limit → d (values x) ≡ asks a
        → ((y : Pair M) → Ends path c d (x ++ (y ∷ []))) → Ends path c d x
    unfolding Ends
    asked r {a} x h p on = look (b.defs a) refl
      where
        small : length x < ask_limit
        small = omega arith

        under : {e : Def M} → b.defs a ≡ some e → ¬ In a path → Ends (path ++ (a ∷ [])) a e [] → Ends path c d x
        under s m (l, gave v, t) = (_, _, descends p small s m t (on (record { cell = a; value = v })).2)
        under s m (l, fault _ _ _ _ _, t) = (_, _, sinks p small s m t)

        circ : {e : Def M} → b.defs a ≡ some e → Dec (In a path) → Ends path c d x
        circ s (yes i) = (_, _, circle p small s i)
        circ {e} s (no m) = under s m (below a e s m)

        look : (s : Option (Def M)) → b.defs a ≡ s → Ends path c d x
        look none s = (_, _, reads p small s (on (record { cell = a; value = b.stored a })).2)
        look (some e) s = circ s (dec_in a path)

    inner : (r : ℕ) (x : List (Pair M)) → length x + r ≡ ask_limit → Ends path c d x
    unfolding Ends
    inner zero x h = go (d (values x)) refl
      where
        go : (s : Act M) → d (values x) ≡ s → Ends path c d x
        go (gives v) p = (_, _, finishes p)
        go (faults n m) p = (_, _, breaks p)
        go (asks a) p = (_, _, ninth p (omega arith))
    inner (suc r) x h = go (λ y. inner r (x ++ (y ∷ [])) (pushed r x y h)) (d (values x)) refl
      where
        go : ((y : Pair M) → Ends path c d (x ++ (y ∷ []))) → (s : Act M) → d (values x) ≡ s → Ends path c d x
        go on (gives v) p = (_, _, finishes p)
        go on (faults n m) p = (_, _, breaks p)
        go on (asks a) p = asked r x h p on

  ends : (k : ℕ) (path : List ℕ) (c : ℕ) (d : Def M) → free cell_count path ≤ k → Ends path c d []
  ends zero path c d h = inner path c d (λ a e s m. absurd (omega (arith, free_fewer cell_count a path (below_count s) m))) ask_limit [] (omega arith)
  ends (suc k) path c d h = inner path c d (λ a e s m. ends k (path ++ (a ∷ [])) a e (omega (arith, free_fewer cell_count a path (below_count s) m))) ask_limit [] (omega arith)

  pub total : (path : List ℕ) (c : ℕ) → (l : List (Finishing M)) × (o : Outcome M) × Afresh b path c l o
  unfolding Ends
  total path c = go (b.defs c) refl
    where
      go : (s : Option (Def M)) → b.defs c ≡ s → (l : List (Finishing M)) × (o : Outcome M) × Afresh b path c l o
      go none s = (_, _, input s)
      go (some d) s = let t = ends (free cell_count (path ++ (c ∷ []))) (path ++ (c ∷ [])) c d (omega arith) in (_, _, worked s t.2)
