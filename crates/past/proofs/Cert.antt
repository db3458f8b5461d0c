-- A certificate: the last finishings of a cell and of what it reaches tell what working out afresh would find.
use Rattle.std.proofs.Common.{◌≡◌, ℕ, ◌<◌, ◌⊎◌, List, [], ◌∷◌, ◌++◌, length, sym, refl, ap, ◌∙◌, subst, inl, inr, append_assoc, append-nil}
use mathlib.Core.Option.{Option, none, some}
use Rattle.interfaces.specs.Cells.{ask_limit}
use Rattle.interfaces.specs.Tasks.{asks, gives, Def}
use Rattle.interfaces.specs.Traces.{Pair}
use Rattle.past.specs.Afresh.{In, first, later, State, Finishing, gave, values, Steps, finishes, reads, descends}
use Rattle.past.specs.Past.{cells, Reaches, directly, beyond}
use Rattle.past.proofs.Lists.{in_left, in_right, in_both, in_one, Ends, ends_right}
use Rattle.past.proofs.Alone.{none_some, one_def}
use Rattle.past.proofs.Whole.{Whole}

either' : {A B C : Type 0} → (A → C) → (B → C) → A ⊎ B → C
either' f g (inl a) = f a
either' f g (inr b) = g b

module _ {M : Type 0} where
  -- the definition d, after the pairs `had`, asks for those of `rest`, whose values are the stored ones, and gives v
  pub data Trail (b : State M) (d : Def M) : List (Pair M) → List (Pair M) → M → Type 0 where
    done : {had : List (Pair M)} {v : M} → d (values had) ≡ gives v → Trail b d had [] v
    step : {had rest : List (Pair M)} {q : Pair M} {v : M} → d (values had) ≡ asks q.cell → length had < ask_limit → b.stored q.cell ≡ q.value
        → Trail b d (had ++ (q ∷ [])) rest v → Trail b d had (q ∷ rest) v

  pub data Cert (b : State M) (F : ℕ → Option (Finishing M)) : ℕ → Type 0 where
    cert : {x : ℕ} {d : Def M} {f : Finishing M} → b.defs x ≡ some d → F x ≡ some f → f.cell ≡ x → b.stored x ≡ f.result
        → Trail b d [] f.asks f.result
        → ((y : ℕ) → In y (cells f.asks) → (e : Def M) → b.defs y ≡ some e → Cert b F y)
        → Cert b F x

  pub reach_join : {F : ℕ → Option (Finishing M)} {x y z : ℕ} → Reaches F x y → Reaches F y z → Reaches F x z
  reach_join (directly p i) s = beyond p i s
  reach_join (beyond p i r) s = beyond p i (reach_join r s)

  -- where two states agree on all that a cell reaches
  module _ (b b' : State M) (F F' : ℕ → Option (Finishing M)) where
    pub record Agree (y : ℕ) : Type 0 where
      pub same_def : b'.defs y ≡ b.defs y
      pub same_last : F' y ≡ F y
      pub same_value : b'.stored y ≡ b.stored y

    trail_moves : {d : Def M} {had rest : List (Pair M)} {v : M} → Trail b d had rest v → ((y : ℕ) → In y (cells rest) → b'.stored y ≡ b.stored y) → Trail b' d had rest v
    trail_moves (done p) h = done p
    trail_moves (step {q = q} p s e t) h = step p s (h q.cell (first refl) ∙ e) (trail_moves t (λ y i. h y (later i)))

    pub cert_moves : {x : ℕ} → Cert b F x → Agree x → ((y : ℕ) → Reaches F x y → Agree y) → Cert b' F' x
    cert_moves (cert {x = x} {f = f} s l e i t k) a h =
        cert (a.same_def ∙ s) (a.same_last ∙ l) e (a.same_value ∙ i) (trail_moves t (λ y o. (h y (directly l o)).same_value))
        (λ y o d p. cert_moves (k y o d (sym (h y (directly l o)).same_def ∙ p)) (h y (directly l o)) (λ z r. h z (beyond l o r)))

    pub reach_back : {x y : ℕ} → Reaches F' x y → Agree x → ((y : ℕ) → Reaches F x y → Agree y) → Reaches F x y
    reach_back (directly p i) a h = directly (sym a.same_last ∙ p) i
    reach_back (beyond {y = y} p i r) a h =
        let q = sym a.same_last ∙ p in
        beyond q i (reach_back r (h y (directly q i)) (λ z r'. h z (beyond q i r')))

    pub reach_on : {x y : ℕ} → Reaches F x y → Agree x → ((y : ℕ) → Reaches F x y → Agree y) → Reaches F' x y
    reach_on (directly p i) a h = directly (a.same_last ∙ p) i
    reach_on (beyond {y = y} p i r) a h = beyond (a.same_last ∙ p) i (reach_on r (h y (directly p i)) (λ z r'. h z (beyond p i r')))

  module _ (b : State M) (F : ℕ → Option (Finishing M)) (alive : (y : ℕ) (f : Finishing M) → F y ≡ some f → (d : Def M) × (b.defs y ≡ some d)) where
    pub starts : {y z : ℕ} → Reaches F y z → (d : Def M) × (b.defs y ≡ some d)
    starts (directly {x = y} {f = f} p _) = alive y f p
    starts (beyond {x = y} {f = f} p _ _) = alive y f p

    pub move_on : {f g : Finishing M} {x y : ℕ} → F x ≡ some f → F x ≡ some g → In y (cells g.asks) → In y (cells f.asks)
    move_on {f} {g} {x} {y} p q i = let e : g ≡ f = cc in subst (λ z. In y (cells z.asks)) e i

    pub no_loop : {x : ℕ} → Cert b F x → ¬ Reaches F x x
    no_loop (cert {x = x} {d = d} s l e i t k) (directly p o) = no_loop (k x (move_on l p o) d s) (directly p o)
    no_loop (cert s l e i t k) (beyond {y = y} p o r) = let u = starts r in no_loop (k y (move_on l p o) u.0 u.1) (reach_join r (directly p o))

    pub reach_cert : {x y : ℕ} {d : Def M} → Cert b F x → Reaches F x y → b.defs y ≡ some d → Cert b F y
    reach_cert {d} (cert s l e i t k) (directly {y = y} p o) u = k y (move_on l p o) d u
    reach_cert (cert s l e i t k) (beyond {y = y} p o r) u = let w = starts r in reach_cert (k y (move_on l p o) w.0 w.1) r u

    -- a finished working-out on a path, whose log ends with the finishing f
    pub record Finished (path : List ℕ) (x : ℕ) (d : Def M) (f : Finishing M) (had : List (Pair M)) : Type 0 where
      pub log : List (Finishing M)
      pub steps : Steps b path x d had log (gave f.result)
      pub ends : Ends log f
      pub inside : (g : Finishing M) → In g log → (g.cell ≡ x) ⊎ Reaches F x g.cell

    module _ (path : List ℕ) (x : ℕ) (d : Def M) (f : Finishing M) (cell_is : f.cell ≡ x) (last_is : F x ≡ some f) where
      from_child : {y z : ℕ} → In y (cells f.asks) → (z ≡ y) ⊎ Reaches F y z → (z ≡ x) ⊎ Reaches F x z
      from_child {y} {z} o (inl e) = inr (subst (λ w. Reaches F x w) (sym e) (directly last_is o))
      from_child {y} {z} o (inr r) = inr (beyond last_is o r)

      own_inside : (had : List (Pair M)) (g : Finishing M) → In g (record { cell = x; asks = had; result = f.result } ∷ []) → (g.cell ≡ x) ⊎ Reaches F x g.cell
      own_inside had g (first e) = inl (ap (λ z. z.cell) e)
      own_inside had g (later i) = elim i [ ]

      walk : {had rest : List (Pair M)} → Trail b d had rest f.result → had ++ rest ≡ f.asks → ((y : ℕ) → In y (cells rest) → In y (cells f.asks))
          → ((y : ℕ) → In y (cells rest) → (e : Def M) → b.defs y ≡ some e → ¬ In y path × ((g : Finishing M) × (b.stored y ≡ g.result) × Finished (path ++ (y ∷ [])) y e g []))
          → Finished path x d f had
      walk {had} (done p) e j h = record { inside = own_inside had; log = _; steps = finishes p; ends = record { pre = []; is = ap (λ z. record { cell = z; asks = had; result = f.result } ∷ []) (sym cell_is) ∙ ap (λ z. record { cell = f.cell; asks = z; result = f.result } ∷ []) (sym (append-nil had) ∙ e) } }
      walk {had} (step {rest = rest} {q = q} p s v t) e j h =
          go (walk t (append_assoc had (q ∷ []) rest ∙ e) (λ y i. j y (later i)) (λ y i. h y (later i))) (h q.cell (first refl)) (b.defs q.cell) refl
        where
          go : Finished path x d f (had ++ (q ∷ []))
              → ((e : Def M) → b.defs q.cell ≡ some e → ¬ In q.cell path × ((g : Finishing M) × (b.stored q.cell ≡ g.result) × Finished (path ++ (q.cell ∷ [])) q.cell e g []))
              → (o : Option (Def M)) → b.defs q.cell ≡ o → Finished path x d f had
          go w k none u = record {
            log = w.log;
            steps = reads p s u (subst (λ z. Steps b path x d (had ++ (record { cell = q.cell; value = z } ∷ [])) w.log (gave f.result)) (sym v) w.steps);
            ends = w.ends;
            inside = w.inside;
          }
          go w k (some e) u =
              let m = k e u in
              let sub = m.1.2 in
              record {
                log = sub.log ++ w.log;
                steps = descends p s u m.0 sub.steps (subst (λ z. Steps b path x d (had ++ (record { cell = q.cell; value = z } ∷ [])) w.log (gave f.result)) (sym v ∙ m.1.1) w.steps);
                ends = ends_right sub.log w.ends;
                inside = λ g i. either' (λ z. from_child (j q.cell (first refl)) (sub.inside g z)) (w.inside g) (in_both sub.log i);
              }

    pub of : {y : ℕ} → Cert b F y → (g : Finishing M) × (F y ≡ some g) × (b.stored y ≡ g.result)
    of (cert {f = g} s l e i t k) = (g, l, i)

    apart : {x y : ℕ} (path : List ℕ) → ¬ In y path → ¬ (y ≡ x) → ¬ In y (path ++ (x ∷ []))
    apart {x} {y} path n m i = split (in_both path i)
      where
        split : In y path ⊎ In y (x ∷ []) → ⊥
        split (inl j) = n j
        split (inr j) = m (in_one j)

    pub works : {x : ℕ} {d : Def M} {f : Finishing M} → Cert b F x → b.defs x ≡ some d → F x ≡ some f
        → (path : List ℕ) → ((y : ℕ) → Reaches F x y → ¬ In y path)
        → Finished (path ++ (x ∷ [])) x d f []
    works {d} {f} (cert {x = x} {d = d₀} {f = f₀} s₀ l₀ e i t k) s l path h =
        let loop = no_loop (cert s₀ l₀ e i t k) in
        let same_d : d₀ ≡ d = one_def b refl s₀ s in
        let same_f : f₀ ≡ f = cc in
        let all : Finished (path ++ (x ∷ [])) x d₀ f₀ [] = walk (path ++ (x ∷ [])) x d₀ f₀ e l₀ t refl (λ y i. i) (λ y o e' u.
        let g = of (k y o e' u) in (
          apart path (h y (directly l₀ o)) (λ q. loop (subst (λ z. Reaches F x z) q (directly l₀ o))),
          (g.0, g.2, works (k y o e' u) u g.1 (path ++ (x ∷ [])) (λ z r. apart path (h z (beyond l₀ o r)) (λ q. loop (subst (λ z. Reaches F x z) q (beyond l₀ o r))))),
        )) in
        subst (λ z. Finished (path ++ (x ∷ [])) x z f []) same_d (subst (λ z. Finished (path ++ (x ∷ [])) x d₀ z []) same_f all)

  -- the other way: what a log says of the state that its results are written into
  module _ (b b' : State M) (F' : ℕ → Option (Finishing M)) (same_defs : (y : ℕ) → b'.defs y ≡ b.defs y) (same_inputs : (y : ℕ) → b.defs y ≡ none → b'.stored y ≡ b.stored y) where
    abbrev pub Logged : List (Finishing M) → Type 0
    Logged log = (f : Finishing M) → In f log → (F' f.cell ≡ some f) × (b'.stored f.cell ≡ f.result)

    record Traced (c : ℕ) (d : Def M) (had : List (Pair M)) (log : List (Finishing M)) (v : M) : Type 0 where
      rest : List (Pair M)
      own : In (record { cell = c; asks = had ++ rest; result = v }) log
      trail : Trail b' d had rest v
      below : (y : ℕ) → In y (cells rest) → (e : Def M) → b.defs y ≡ some e → Cert b' F' y
      inside : (y : ℕ) → In y (cells rest) → (e : Def M) → b.defs y ≡ some e → (g : Finishing M) × In g log × (g.cell ≡ y)

    to_cert : {c : ℕ} {d : Def M} {log : List (Finishing M)} {v : M} → b.defs c ≡ some d → Logged log → Traced c d [] log v → Cert b' F' c
    to_cert {c} s h t = let k = h _ t.own in cert (same_defs c ∙ s) k.0 refl k.1 t.trail (λ y i e z. t.below y i e (sym (same_defs y) ∙ z))

    under : (P : ℕ → Type 0) (a : ℕ) (rest : List (Pair M)) → ((e : Def M) → b.defs a ≡ some e → P a)
        → ((y : ℕ) → In y (cells rest) → (e : Def M) → b.defs y ≡ some e → P y)
        → (y : ℕ) → In y (a ∷ cells rest) → (e : Def M) → b.defs y ≡ some e → P y
    under P a rest h t y (first p) e s = subst P (sym p) (h e (ap (λ z. b.defs z) (sym p) ∙ s))
    under P a rest h t y (later i) e s = t y i e s

    trace : {path : List ℕ} {c : ℕ} {d : Def M} {had : List (Pair M)} {log : List (Finishing M)} {v : M}
        → Steps b path c d had log (gave v) → Logged log → Traced c d had log v
    trace {c} {had} {v} (finishes p) h = record { rest = []; own = first (ap (λ z. record { cell = c; asks = z; result = v }) (append-nil had)); trail = done p; below = λ y i. elim i [ ]; inside = λ y i. elim i [ ] }
    trace {c} {had} {log} {v} (reads {a = a} p s u t) h =
        let r = trace t h in
        let q : Pair M = record { cell = a; value = b.stored a } in
        record {
          rest = q ∷ r.rest;
          own = subst (λ z. In (record { cell = c; asks = z; result = v }) log) (append_assoc had (q ∷ []) r.rest) r.own;
          trail = step p s (same_inputs a u) r.trail;
          below = under (λ y. Cert b' F' y) a r.rest (λ e z. absurd (none_some b refl u z)) r.below;
          inside = under (λ y. (g : Finishing M) × In g log × (g.cell ≡ y)) a r.rest (λ e z. absurd (none_some b refl u z)) r.inside;
        }
    trace {c} {had} {v = v₀} (descends {a = a} {v = w} {below = below} {log = log} p s u n t t') h =
        let r = trace t (λ f i. h f (in_left log i)) in
        let r' = trace t' (λ f i. h f (in_right below i)) in
        let q : Pair M = record { cell = a; value = w } in
        record {
          rest = q ∷ r'.rest;
          own = subst (λ z. In (record { cell = c; asks = z; result = v₀ }) (below ++ log)) (append_assoc had (q ∷ []) r'.rest) (in_right below r'.own);
          trail = step p s (h _ (in_left log r.own)).1 r'.trail;
          below = under (λ y. Cert b' F' y) a r'.rest (λ e z. to_cert u (λ f i. h f (in_left log i)) r) r'.below;
          inside = under (λ y. (g : Finishing M) × In g (below ++ log) × (g.cell ≡ y)) a r'.rest (λ e z. (_, in_left log r.own, refl))
              (λ y i e z. let k = r'.inside y i e z in (k.0, in_right below k.1, k.2));
        }

    pub log_cert : {log : List (Finishing M)} {f : Finishing M} → Logged log → Whole b log f → Cert b' F' f.cell
    log_cert {f} h w = subst (λ z. Cert b' F' z) (sym w.cell_is) (to_cert w.def_is (λ g i. h g (w.within g i)) (trace w.steps (λ g i. h g (w.within g i))))

    -- what a finishing of the log asked for and is defined has finished in the log too
    pub log_inside : {log : List (Finishing M)} {f : Finishing M} {y : ℕ} {e : Def M} → Logged log → Whole b log f → ((g : Finishing M) → In g log → g.cell ≡ f.cell → g ≡ f)
        → In y (cells f.asks) → b.defs y ≡ some e → (g : Finishing M) × In g log × (g.cell ≡ y)
    log_inside {f} {y} {e} h w u i s =
        let t = trace w.steps (λ g i. h g (w.within g i)) in
        let q = u _ (w.within _ t.own) (sym w.cell_is) in
        let r = t.inside y (subst (λ z. In y (cells z.asks)) (sym q) i) e s in
        (r.0, w.within _ r.1, r.2)
