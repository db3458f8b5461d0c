-- Working out the beginning once more: steps that begin with known answers, and logs with a part that they have already.
use Rattle.std.proofs.Common.{◌≡◌, ℕ, ◌<◌, Bool, ◌⊎◌, List, [], ◌∷◌, ◌++◌, length, sym, refl, ap, ◌∙◌, subst, inl, inr, arith}
use mathlib.Core.Option.{Option, none, some}
use native.Mathlib.Decide.{ℕ_discrete}
use Rattle.interfaces.specs.Cells.{ask_limit}
use Rattle.interfaces.specs.Tasks.{asks, Def}
use Rattle.interfaces.specs.Traces.{Pair}
use Rattle.past.specs.Afresh.{In, first, later, State, Finishing, Log, Outcome, gave, values, Steps, finishes, breaks, ninth, circle, reads, descends, sinks}
use Rattle.past.specs.Past.{Past, Run, found, or_else, result_or, last, stored, state, Report, ran, again, idle}
use Rattle.past.proofs.Lists.{in_left, in_right, in_both}
use Rattle.past.proofs.Alone.{none_some, one_def, alike, alone}
use Rattle.past.proofs.Whole.{found_past, found_in}
use Rattle.view.specs.View.{View, asked_in}
use Rattle.midway.specs.Midway.{Full, Mid}
use Rattle.midway.proofs.Logs.{found_left, found_skip, on_cells}

module _ {M : Type 0} (b : State M) where
  -- after an ask for an input, the steps go on with its stored value
  pub unread : {path : List ℕ} {x a : ℕ} {d : Def M} {pairs : List (Pair M)} {m : Log M} {o : Outcome M} → d (values pairs) ≡ asks a → length pairs < ask_limit → b.defs a ≡ none
      → Steps b path x d pairs m o → Steps b path x d (pairs ++ (record { cell = a; value = b.stored a } ∷ [])) m o
  unread e s u (finishes p) = let z : ◌≡◌ {A = ℕ} 0 1 = cc in absurd (omega arith)
  unread e s u (breaks p) = let z : ◌≡◌ {A = ℕ} 0 1 = cc in absurd (omega arith)
  unread e s u (ninth p k) = absurd (omega arith)
  unread {a = a} e s u (circle {a = a'} p _ k i) = let z : a ≡ a' = cc in absurd (none_some b z u k)
  unread {path} {x} {a} {d} {pairs} {m} {o} e s u (reads {a = a'} p _ k t) = let z : a' ≡ a = cc in subst (λ y. Steps b path x d (pairs ++ (record { cell = y; value = b.stored y } ∷ [])) m o) z t
  unread {a = a} e s u (descends {a = a'} p _ k n t t') = let z : a ≡ a' = cc in absurd (none_some b z u k)
  unread {a = a} e s u (sinks {a = a'} p _ k n t) = let z : a ≡ a' = cc in absurd (none_some b z u k)

  pair_is : {a a' : ℕ} {v v' : M} → a ≡ a' → v ≡ v' → ◌≡◌ {A = Pair M} (record { cell = a; value = v }) (record { cell = a'; value = v' })
  pair_is e e' = λ i. record { cell = e i; value = e' i }

  -- and after an ask for a defined cell that gives a value, with that value
  pub unasked : {path : List ℕ} {x a : ℕ} {d e : Def M} {pairs : List (Pair M)} {v : M} {below m : Log M} {o : Outcome M} → d (values pairs) ≡ asks a → length pairs < ask_limit → b.defs a ≡ some e → ¬ In a path
      → Steps b (path ++ (a ∷ [])) a e [] below (gave v) → Steps b path x d pairs m o
      → (rest : Log M) × (m ≡ below ++ rest) × Steps b path x d (pairs ++ (record { cell = a; value = v } ∷ [])) rest o
  unasked e s u n w (finishes p) = let z : ◌≡◌ {A = ℕ} 0 1 = cc in absurd (omega arith)
  unasked e s u n w (breaks p) = let z : ◌≡◌ {A = ℕ} 0 1 = cc in absurd (omega arith)
  unasked e s u n w (ninth p k) = absurd (omega arith)
  unasked {path} {a = a} e s u n w (circle {a = a'} p _ k i) = let z : a' ≡ a = cc in absurd (n (subst (λ y. In y path) z i))
  unasked {a = a} e s u n w (reads {a = a'} p _ k t) = let z : a' ≡ a = cc in absurd (none_some b z k u)
  unasked {path} {x} {a} {d} {pairs = pairs} {o = o} e s u n w (descends {a = a'} {log = log} p _ k n' t t') =
      let z : a' ≡ a = cc in
      let y = alike b z (one_def b z k u) refl t w in
      (log, ap (λ q. q ++ log) y.0, subst (λ q. Steps b path x d (pairs ++ (q ∷ [])) log o) (pair_is z y.1) t')
  unasked {path} {a = a} e s u n w (sinks {a = a'} p _ k n' t) =
      let z : a' ≡ a = cc in
      let y = (alone b (ap (λ q. path ++ (q ∷ [])) z) z (one_def b z k u) refl t w).1 in
      let q : ◌≡◌ {A = ℕ} 0 1 = cc in absurd (omega arith)

module _ {M : Type 0} (blank : M) (locks : ℕ → Bool) (depth : ℕ) (p : Past M) where
  strip : {seen : List ℕ} (s m : Log M) {r : List (Run M)} → ((f : Finishing M) → In f s → In f.cell seen) → Report blank depth p seen (s ++ m) r → Report blank depth p seen m r
  strip [] m k rep = rep
  strip (g ∷ s) m k (ran n u c rep) = absurd (n (k g (first refl)))
  strip (g ∷ s) m k (idle n u rep) = absurd (n (k g (first refl)))
  strip (g ∷ s) m k (again o rep) = strip s m (λ f i. k f (later i)) rep

  -- a cell that finished before, among these or in the log
  abbrev Before : List ℕ → Log M → Finishing M → Type 0
  Before seen l f = In f.cell seen ⊎ ¬ (found l f.cell ≡ none)

  older : {seen : List ℕ} (g : Finishing M) (l : Log M) (f : Finishing M) → Before seen (g ∷ l) f → Before (g.cell ∷ seen) l f
  older g l f (inl i) = inl (later i)
  older {seen} g l f (inr n) = go (ℕ_discrete f.cell g.cell)
    where
      go : Dec (f.cell ≡ g.cell) → In f.cell (g.cell ∷ seen) ⊎ ¬ (found l f.cell ≡ none)
      go (yes e) = inl (first e)
      go (no q) = inr (λ e. n (found_past g l f.cell q ∙ e))

  narrow : {seen : List ℕ} {y : ℕ} (l : Log M) (f : Finishing M) → In y seen → Before (y ∷ seen) l f → Before seen l f
  narrow {seen} l f o (inl (first e)) = inl (subst (λ z. In z seen) (sym e) o)
  narrow l f o (inl (later i)) = inl i
  narrow l f o (inr n) = inr n

  report_less : (seen : List ℕ) (l s m : Log M) {r : List (Run M)} → ((f : Finishing M) → In f s → Before seen l f) → Report blank depth p seen (l ++ (s ++ m)) r → Report blank depth p seen (l ++ m) r
  unfolding found
  report_less seen [] s m k rep = strip s m (λ f i. seen_so f (k f i)) rep
    where
      seen_so : (f : Finishing M) → In f.cell seen ⊎ ¬ (◌≡◌ {A = Option (Finishing M)} none none) → In f.cell seen
      seen_so f (inl i) = i
      seen_so f (inr n) = absurd (n refl)
  report_less seen (g ∷ l) s m k (ran n u c rep) = ran n u c (report_less (g.cell ∷ seen) l s m (λ f i. older g l f (k f i)) rep)
  report_less seen (g ∷ l) s m k (idle n u rep) = idle n u (report_less (g.cell ∷ seen) l s m (λ f i. older g l f (k f i)) rep)
  report_less seen (g ∷ l) s m k (again o rep) = again o (report_less seen l s m (λ f i. narrow l f o (older g l f (k f i))) rep)

  -- finishings that the log has already change nothing
  pub less : (l s m : Log M) {r : List (Run M)} {w : View M} → ((f : Finishing M) → In f s → In f l) → Mid blank locks depth p (l ++ (s ++ m)) r w → Mid blank locks depth p (l ++ m) r w
  less l s m {r} {w} k mid = record {
    full = λ f i. full f (mid.full f (wider f (in_both l i)));
    report = report_less [] l s m (λ f i. inr (on_cells l f.cell (k f i) refl)) mid.report;
    values_are = λ x. mid.values_are x ∙ ap (λ z. result_or z (stored blank p x)) (same x);
    locks_are = mid.locks_are;
    defs_are = mid.defs_are;
    marks_are = mid.marks_are;
    traces_are = mid.traces_are;
    doubts = λ x y e. let z = mid.doubts x y e in (sym (same x) ∙ z.0, z.1);
    calm = λ x e n. mid.calm x e (same x ∙ n);
    asked_are = λ x. mid.asked_are x ∙ ap (λ z. asked_in (or_else z (last p x))) (same x);
  }
    where
      wider : (f : Finishing M) → In f l ⊎ In f m → In f (l ++ (s ++ m))
      wider f (inl i) = in_left (s ++ m) i
      wider f (inr i) = in_right l (in_right s i)

      inner : (f : Finishing M) → In f s ⊎ In f m → In f (l ++ m)
      inner f (inl i) = in_left m (k f i)
      inner f (inr i) = in_right l i

      fewer : (f : Finishing M) → In f l ⊎ In f (s ++ m) → In f (l ++ m)
      fewer f (inl i) = in_left m i
      fewer f (inr i) = inner f (in_both s i)

      full : (f : Finishing M) → Full (state blank p) (l ++ (s ++ m)) f → Full (state blank p) (l ++ m) f
      full f t = record { path = t.path; d = t.d; before = t.before; def_is = t.def_is; on_path = t.on_path; steps = t.steps; within = λ g i. fewer g (in_both l (t.within g i)) }

      same : (x : ℕ) → found (l ++ (s ++ m)) x ≡ found (l ++ m) x
      same x = go (found l x) refl
        where
          none_there : found l x ≡ none → (z : Option (Finishing M)) → found s x ≡ z → found s x ≡ none
          none_there e none q = q
          none_there e (some f) q = let i = found_in s x q in absurd (on_cells l x (k f i.0) i.1 e)

          go : (z : Option (Finishing M)) → found l x ≡ z → found (l ++ (s ++ m)) x ≡ found (l ++ m) x
          go (some f) e = found_left l (s ++ m) x e ∙ sym (found_left l m x e)
          go none e = found_skip l (s ++ m) x e ∙ found_skip s m x (none_there e (found s x) refl) ∙ sym (found_skip l m x e)
