-- A kept trace follows the cell's definition; so one that fits tells what working out afresh finds.
use Rattle.std.proofs.Common.{◌≡◌, ℕ, zero, suc, Bool, ◌⊎◌, List, [], ◌∷◌, ◌++◌, take, sym, refl, ap, ◌∙◌, subst, inl, inr, append_assoc, append-nil}
use mathlib.Core.Option.{none, some}
use native.Mathlib.Decide.{ℕ_discrete}
use Rattle.std.proofs.lemmas.Bool.{eq-eqb, ne_eqb}
use Rattle.interfaces.specs.Tasks.{Def, Verdict}
use Rattle.interfaces.specs.Traces.{Pair, Trace}
use Rattle.past.specs.Afresh.{In, first, later, State, Finishing, gave, Steps, finishes, reads, descends, Afresh, worked}
use Rattle.past.specs.Past.{Run, refused, edited, defined, cleared, queried, Past, start, ◌▹◌, defs, traces_of, runs_of, kept, state, Fits, Report, end, ran, again, idle}
use Rattle.past.specs.Law.{Right, Lawful}
use Rattle.past.proofs.Lists.{in_both, Ends, ends_one, ends_right}
use Rattle.past.proofs.Alone.{one_def}
use Rattle.past.proofs.Whole.{Whole, all_whole}
use Rattle.past.proofs.Cert.{done, step}
use Rattle.past.proofs.Fitting.{Follows, done, step, fits}
use Rattle.past.proofs.Since.{changed_here, changed_away}

module _ {M : Type 0} where
  -- a working-out follows its own asks
  record Way (d : Def M) (c : ℕ) (had : List (Pair M)) (l : List (Finishing M)) (v : M) : Type 0 where
    rest : List (Pair M)
    follows : Follows d had rest v
    ends : Ends l (record { cell = c; asks = had ++ rest; result = v })

  way : (b : State M) {path : List ℕ} {c : ℕ} {d : Def M} {had : List (Pair M)} {l : List (Finishing M)} {v : M} → Steps b path c d had l (gave v) → Way d c had l v
  way b {c} {had} {v} (finishes p) = record { rest = []; follows = done p; ends = record { pre = []; is = ap (λ z. record { cell = c; asks = z; result = v } ∷ []) (sym (append-nil had)) } }
  way b {c} {had} {l} {v} (reads {a = a} p s u t) =
      let r = way b t in
      let q : Pair M = record { cell = a; value = b.stored a } in
      record { rest = q ∷ r.rest; follows = step p s r.follows; ends = subst (λ z. Ends l (record { cell = c; asks = z; result = v })) (append_assoc had (q ∷ []) r.rest) r.ends }
  way b {c} {had} {v = w} (descends {a = a} {v = v} {below = below} {log = log} p s u n t t') =
      let r = way b t' in
      let q : Pair M = record { cell = a; value = v } in
      record { rest = q ∷ r.rest; follows = step p s r.follows; ends = ends_right below (subst (λ z. Ends log (record { cell = c; asks = z; result = w })) (append_assoc had (q ∷ []) r.rest) r.ends) }

  whole_follows : (b : State M) {log : List (Finishing M)} {f : Finishing M} {d : Def M} → Whole b log f → b.defs f.cell ≡ some d → Follows d [] f.asks f.result
  whole_follows b {f} {d} w s =
      let r = way b w.steps in
      let e : w.d ≡ d = one_def b (sym w.cell_is) w.def_is s in
      let same_f : record { cell = w.c; asks = r.rest; result = w.v } ≡ f = ends_one refl r.ends w.ends in
      subst (λ z. Follows z [] f.asks f.result) e (subst (λ z. Follows w.d [] z.asks z.result) same_f r.follows)

  traces_cons : (r : Run M) (rs : List (Run M)) (x : ℕ) {t : Trace M} → In t (traces_of (r ∷ rs) x) → ((x ≡ r.cell) × (t ≡ r.trace)) ⊎ In t (traces_of rs x)
  unfolding traces_of
  traces_cons r rs x {t} i = go (ℕ_discrete x r.cell)
    where
      split : x ≡ r.cell → In t (r.trace ∷ traces_of rs x) → ((x ≡ r.cell) × (t ≡ r.trace)) ⊎ In t (traces_of rs x)
      split e (first q) = inl (e, q)
      split e (later j) = inr j

      go : Dec (x ≡ r.cell) → ((x ≡ r.cell) × (t ≡ r.trace)) ⊎ In t (traces_of rs x)
      go (yes e) = split e (rw (eq-eqb x r.cell e) at i)
      go (no n) = inr (rw (ne_eqb x r.cell n) at i)

  module _ (blank : M) (locks : ℕ → Bool) (stands : List ℕ → Verdict M) (depth : ℕ) where
    pub record Source (l : List (Finishing M)) (x : ℕ) (t : Trace M) : Type 0 where
      pub f : Finishing M
      pub inside : In f l
      pub cell_is : f.cell ≡ x
      pub trace_is : t ≡ record { asks = f.asks; result = f.result }

    deeper : {l : List (Finishing M)} {g : Finishing M} {x : ℕ} {t : Trace M} → Source l x t → Source (g ∷ l) x t
    deeper w = record { f = w.f; inside = later w.inside; cell_is = w.cell_is; trace_is = w.trace_is }

    pub source : {p : Past M} {seen : List ℕ} {l : List (Finishing M)} {r : List (Run M)} → Report blank depth p seen l r → (x : ℕ) (t : Trace M) → In t (traces_of r x) → Source l x t
    unfolding traces_of
    source end x t i = elim i [ ]
    source (ran {f = f} {log = l} {r = r} {y = y} n w c k) x t i = go (λ j. source k x t j) (traces_cons (record { cell = f.cell; cause = y; trace = record { asks = f.asks; result = f.result } }) r x i)
      where
        go : (In t (traces_of r x) → Source l x t) → ((x ≡ f.cell) × (t ≡ record { asks = f.asks; result = f.result })) ⊎ In t (traces_of r x) → Source (f ∷ l) x t
        go ih (inl e) = record { f = f; inside = first refl; cell_is = sym e.0; trace_is = e.1 }
        go ih (inr j) = deeper (ih j)
    source (again o k) x t i = deeper (source k x t i)
    source (idle n w k) x t i = deeper (source k x t i)

    in_gone : {A : Type 0} {a : A} {l : List A} → l ≡ [] → In a l → ⊥
    in_gone {a} e i = let j = subst (λ z. In a z) e i in elim j [ ]

    pub kept_follows : (p : Past M) → Lawful blank locks stands depth p → (x : ℕ) (d : Def M) (t : Trace M) → defs p x ≡ some d → In t (runs_of p x) → Follows d [] t.asks t.result
    unfolding Lawful Right defs runs_of
    kept_follows (start s) h x d t e i = elim i [ ]
    kept_follows (p ▹ refused q said) h x d t e i = kept_follows p h.0 x d t e i
    kept_follows (p ▹ edited c v) h x d t e i = kept_follows p h.0 x d t e i
    kept_follows (p ▹ defined c text d') h x d t e i = go (λ e i. kept_follows p h.0 x d t e i) (ℕ_discrete x c)
      where
        go : (defs p x ≡ some d → In t (runs_of p x) → Follows d [] t.asks t.result) → Dec (x ≡ c) → Follows d [] t.asks t.result
        go ih (yes q) = absurd (in_gone (changed_here c [] (runs_of p) x q) i)
        go ih (no n) = ih (sym (changed_away c (some d') (defs p) x n) ∙ e) (subst (λ z. In t z) (changed_away c [] (runs_of p) x n) i)
    kept_follows (p ▹ cleared c) h x d t e i = go (λ e i. kept_follows p h.0 x d t e i) (ℕ_discrete x c)
      where
        go : (defs p x ≡ some d → In t (runs_of p x) → Follows d [] t.asks t.result) → Dec (x ≡ c) → Follows d [] t.asks t.result
        go ih (yes q) = absurd (in_gone (changed_here c [] (runs_of p) x q) i)
        go ih (no n) = ih (sym (changed_away c none (defs p) x n) ∙ e) (subst (λ z. In t z) (changed_away c [] (runs_of p) x n) i)
    kept_follows (p ▹ queried c lent l o r) h x d t e i = go (λ i. kept_follows p h.0 x d t e i) (in_both (traces_of r x) i)
      where
        go : (In t (runs_of p x) → Follows d [] t.asks t.result) → In t (traces_of r x) ⊎ In t (runs_of p x) → Follows d [] t.asks t.result
        go ih (inl j) =
            let w = source h.2.2 x t j in
            let u = whole_follows (state blank p) (all_whole (state blank p) h.2.1 w.inside) (ap (λ z. defs p z) w.cell_is ∙ e) in
            subst (λ z. Follows d [] z.asks z.result) (sym w.trace_is) u
        go ih (inr j) = ih j

    pub in_take : {A : Type 0} {a : A} (n : ℕ) (l : List A) → In a (take n l) → In a l
    in_take zero l i = elim i [ ]
    in_take (suc n) [] i = elim i [ ]
    in_take (suc n) (y ∷ l) (first e) = first e
    in_take (suc n) (y ∷ l) (later i) = later (in_take n l i)

    -- a kept trace that fits is what working out afresh finds
    pub kept_right : (p : Past M) → Lawful blank locks stands depth p → (x : ℕ) (d : Def M) (t : Trace M) → defs p x ≡ some d → In t (kept depth p x) → Fits blank p t
        → (l : List (Finishing M)) × Afresh (state blank p) [] x (l ++ (record { cell = x; asks = t.asks; result = t.result } ∷ [])) (gave t.result)
    unfolding kept Fits
    kept_right p h x d t e i k =
        let w = fits (state blank p) x d e t.asks t.result (kept_follows p h x d t e (in_take depth (runs_of p x) i)) k in
        (w.ends.pre, subst (λ z. Afresh (state blank p) [] x z (gave t.result)) w.ends.is (worked e w.steps))
