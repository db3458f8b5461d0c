-- A cell that is not in doubt has the value that working out afresh finds.
use Rattle.std.proofs.Common.{◌≡◌, ℕ, Bool, ◌⊎◌, List, [], ◌∷◌, Ok, sym, refl, ap, ◌∙◌, subst, inl, inr}
use mathlib.Core.Option.{Option, none, some}
use native.Mathlib.Decide.{ℕ_discrete}
use Rattle.interfaces.specs.Refusals.{Said}
use Rattle.interfaces.specs.Tasks.{Def, Verdict}
use Rattle.past.specs.Afresh.{In, Finishing, Outcome, gave, Steps, Afresh, worked}
use Rattle.past.specs.Past.{Lent, Run, Request, Call, refused, edited, defined, cleared, queried, Past, start, ◌▹◌, changed, cells, found, or_else, defs, last, up_to, Reaches, directly, beyond, stored, state, Touches, Still, then, since, never, touched, InDoubt}
use Rattle.past.specs.Law.{Right, Lawful}
use Rattle.past.specs.Theorems.{UpToDate}
use Rattle.past.proofs.Lists.{no_some, ends_one}
use Rattle.past.proofs.Alone.{none_some, one_def, alike}
use Rattle.past.proofs.Whole.{all_whole, coherent, found_in, Sound, sound_found}
use Rattle.past.proofs.Cert.{Cert, reach_join, Agree, cert_moves, reach_back, reach_on, starts, reach_cert, of, works, Logged, log_cert, log_inside}
use Rattle.past.proofs.Table.{edit_free}
use Rattle.past.proofs.Since.{changed_here, changed_away, last_some, last_none, up_some, up_none, up_extends, stored_some, stored_none, before, extend_still, still_sure}

module _ {M : Type 0} (blank : M) (locks : ℕ → Bool) (stands : List ℕ → Verdict M) (depth : ℕ) (same : (v w : M) → Dec (v ≡ w)) where
  -- a finished cell is defined
  pub alive : (p : Past M) → Lawful blank locks stands depth p → (y : ℕ) (f : Finishing M) → last p y ≡ some f → (d : Def M) × (defs p y ≡ some d)
  unfolding Lawful Right last defs or_else
  alive (start s) h y f e = absurd (no_some e)
  alive (p ▹ refused q said) h y f e = alive p h.0 y f e
  alive (p ▹ edited c v) h y f e = alive p h.0 y f e
  alive (p ▹ defined c text d) h y f e = go (λ e'. alive p h.0 y f e') (ℕ_discrete y c)
    where
      go : (last p y ≡ some f → (d : Def M) × (defs p y ≡ some d)) → Dec (y ≡ c) → (d' : Def M) × (changed c (some d) (defs p) y ≡ some d')
      go ih (yes q) = (d, changed_here c (some d) (defs p) y q)
      go ih (no n) = let r = ih (sym (changed_away c none (last p) y n) ∙ e) in (r.0, changed_away c (some d) (defs p) y n ∙ r.1)
  alive (p ▹ cleared c) h y f e = go (λ e'. alive p h.0 y f e') (ℕ_discrete y c)
    where
      go : (last p y ≡ some f → (d : Def M) × (defs p y ≡ some d)) → Dec (y ≡ c) → (d' : Def M) × (changed c none (defs p) y ≡ some d')
      go ih (yes q) = absurd (no_some (sym (changed_here c none (last p) y q) ∙ e))
      go ih (no n) = let r = ih (sym (changed_away c none (last p) y n) ∙ e) in (r.0, changed_away c none (defs p) y n ∙ r.1)
  alive (p ▹ queried c lent l o r) h y f e = go (λ e'. alive p h.0 y f e') (found l y) refl e
    where
      go : (last p y ≡ some f → (d : Def M) × (defs p y ≡ some d)) → (z : Option (Finishing M)) → found l y ≡ z → or_else z (last p y) ≡ some f → (d : Def M) × (defs p y ≡ some d)
      go ih none q e' = ih e'
      go ih (some g) q e' =
          let k = found_in l y q in
          let w = all_whole (state blank p) h.2.1 k.0 in
          (w.d, ap (λ z. defs p z) (sym k.1 ∙ w.cell_is) ∙ w.def_is)

  -- not in doubt, said outright: t is the past when the cell was last finished
  pub record Settled (p : Past M) (x : ℕ) (t : Past M) : Type 0 where
    pub d : Def M
    pub def_is : defs p x ≡ some d
    pub up : up_to p x ≡ some t
    pub still : Still blank t x p

  pub record Good (p : Past M) (x : ℕ) (t : Past M) : Type 0 where
    pub certified : Cert (state blank p) (last p) x
    pub back : (y : ℕ) → Reaches (last p) x y → Reaches (last t) x y
    pub on : (y : ℕ) → Reaches (last t) x y → Reaches (last p) x y
    pub below : (y : ℕ) → Reaches (last p) x y → (e : Def M) → defs p y ≡ some e → (u : Past M) × Settled p y u

  -- one more call, that finishes not x and changes nothing of what x reaches
  module _ (p : Past M) (k : Call M) (x : ℕ) (t : Past M) (all : (y : ℕ) (u : Past M) → Settled p y u → Good p y u)
      (good : Good p x t) (calm : (y : ℕ) → Touches blank p k y → ¬ Reaches (last t) x y)
      (here : Agree (state blank p) (state blank (p ▹ k)) (last p) (last (p ▹ k)) x)
      (there : (y : ℕ) → Reaches (last p) x y → Agree (state blank p) (state blank (p ▹ k)) (last p) (last (p ▹ k)) y)
      (ups : (y : ℕ) → Reaches (last p) x y → (up_to (p ▹ k) y ≡ up_to p y) ⊎ (up_to (p ▹ k) y ≡ some (p ▹ k))) where
    returns : (y : ℕ) → Reaches (last (p ▹ k)) x y → Reaches (last p) x y
    returns y r = reach_back (state blank p) (state blank (p ▹ k)) (last p) (last (p ▹ k)) r here there

    still_below : (y : ℕ) → Reaches (last p) x y → (e : Def M) → defs (p ▹ k) y ≡ some e → (u : Past M) × Settled p y u → (u : Past M) × Settled (p ▹ k) y u
    still_below y r e s (u, w) = go (ups y r)
      where
        go : (up_to (p ▹ k) y ≡ up_to p y) ⊎ (up_to (p ▹ k) y ≡ some (p ▹ k)) → (u : Past M) × Settled (p ▹ k) y u
        go (inl q) = (u, record { d = e; def_is = s; up = q ∙ w.up; still = since w.still (λ z h h'. calm z h (good.back z (reach_join r ((all y u w).on z h')))) })
        go (inr q) = (p ▹ k, record { d = e; def_is = s; up = q; still = then })

    next : Good (p ▹ k) x t
    next = record {
      certified = cert_moves (state blank p) (state blank (p ▹ k)) (last p) (last (p ▹ k)) good.certified here there;
      back = λ y r. good.back y (returns y r);
      on = λ y r. reach_on (state blank p) (state blank (p ▹ k)) (last p) (last (p ▹ k)) (good.on y r) here there;
      below = λ y r e s. let r' = returns y r in still_below y r' e s (good.below y r' e (sym (there y r').same_def ∙ s));
    }

  unfoldable pub All : Past M → Type 0
  All p = (y : ℕ) (u : Past M) → Settled p y u → Good p y u

  edit_case : (p : Past M) (c : ℕ) (v : M) → defs p c ≡ none → All p → All (p ▹ edited c v)
  unfolding All defs stored last up_to Touches
  edit_case p c v n all x t w = next p (edited c v) x t all good b.1
      (record { same_def = refl; same_last = refl; same_value = changed_away c v (stored blank p) x (λ e. none_some (state blank p) (sym e) n w.def_is) })
      (λ y r. record { same_def = refl; same_last = refl; same_value = look y r (ℕ_discrete y c) (same v (stored blank p c)) })
      (λ y r. inl refl)
    where
      b : Still blank t x p × ((y : ℕ) → Touches blank p (edited c v) y → ¬ Reaches (last t) x y)
      b = before blank p (edited c v) x t w.up w.still

      good : Good p x t
      good = all x t (record { d = w.d; def_is = w.def_is; up = w.up; still = b.0 })

      look : (y : ℕ) → Reaches (last p) x y → Dec (y ≡ c) → Dec (v ≡ stored blank p c) → changed c v (stored blank p) y ≡ stored blank p y
      look y r (no m) _ = changed_away c v (stored blank p) y m
      look y r (yes e) (yes q) = changed_here c v (stored blank p) y e ∙ q ∙ ap (stored blank p) (sym e)
      look y r (yes e) (no m) = absurd (b.1 y (e, m) (good.back y r))

  define_case : (p : Past M) (c : ℕ) (text : List ℕ) (d : Def M) → All p → All (p ▹ defined c text d)
  unfolding All defs stored last up_to Touches
  define_case p c text d all x t w = next p (defined c text d) x t all good b.1 (agree x away) (λ y r. agree y (apart y r)) (λ y r. inl (changed_away c none (up_to p) y (apart y r)))
    where
      away : ¬ (x ≡ c)
      away e = no_some (sym (changed_here c none (up_to p) x e) ∙ w.up)

      up₀ : up_to p x ≡ some t
      up₀ = sym (changed_away c none (up_to p) x away) ∙ w.up

      b : Still blank t x p × ((y : ℕ) → Touches blank p (defined c text d) y → ¬ Reaches (last t) x y)
      b = before blank p (defined c text d) x t up₀ w.still

      good : Good p x t
      good = all x t (record { d = w.d; def_is = sym (changed_away c (some d) (defs p) x away) ∙ w.def_is; up = up₀; still = b.0 })

      apart : (y : ℕ) → Reaches (last p) x y → ¬ (y ≡ c)
      apart y r e = b.1 y e (good.back y r)

      agree : (y : ℕ) → ¬ (y ≡ c) → Agree (state blank p) (state blank (p ▹ defined c text d)) (last p) (last (p ▹ defined c text d)) y
      agree y n = record { same_def = changed_away c (some d) (defs p) y n; same_last = changed_away c none (last p) y n; same_value = refl }

  clear_case : (p : Past M) (c : ℕ) → All p → All (p ▹ cleared c)
  unfolding All defs stored last up_to Touches
  clear_case p c all x t w = next p (cleared c) x t all good b.1 (agree x away) (λ y r. agree y (apart y r)) (λ y r. inl (changed_away c none (up_to p) y (apart y r)))
    where
      away : ¬ (x ≡ c)
      away e = no_some (sym (changed_here c none (up_to p) x e) ∙ w.up)

      up₀ : up_to p x ≡ some t
      up₀ = sym (changed_away c none (up_to p) x away) ∙ w.up

      b : Still blank t x p × ((y : ℕ) → Touches blank p (cleared c) y → ¬ Reaches (last t) x y)
      b = before blank p (cleared c) x t up₀ w.still

      good : Good p x t
      good = all x t (record { d = w.d; def_is = sym (changed_away c none (defs p) x away) ∙ w.def_is; up = up₀; still = b.0 })

      apart : (y : ℕ) → Reaches (last p) x y → ¬ (y ≡ c)
      apart y r e = b.1 y e (good.back y r)

      agree : (y : ℕ) → ¬ (y ≡ c) → Agree (state blank p) (state blank (p ▹ cleared c)) (last p) (last (p ▹ cleared c)) y
      agree y n = record { same_def = changed_away c none (defs p) y n; same_last = changed_away c none (last p) y n; same_value = changed_away c blank (stored blank p) y n }

  refused_case : (p : Past M) (q : Request M) (said : Said) → All p → All (p ▹ refused q said)
  unfolding All defs stored last up_to Touches
  refused_case p q said all x t w = next p (refused q said) x t all (all x t (record { d = w.d; def_is = w.def_is; up = w.up; still = b.0 })) b.1
      (record { same_def = refl; same_last = refl; same_value = refl }) (λ y r. record { same_def = refl; same_last = refl; same_value = refl }) (λ y r. inl refl)
    where
      b : Still blank t x p × ((y : ℕ) → Touches blank p (refused q said) y → ¬ Reaches (last t) x y)
      b = before blank p (refused q said) x t w.up w.still

  module _ (p : Past M) (h : Lawful blank locks stands depth p) (c : ℕ) (lent : Lent) (l : List (Finishing M)) (o : Outcome M) (r : List (Run M)) (a : Sound (state blank p) l) where
    -- only defined cells finish
    pub found_def : (x : ℕ) {f : Finishing M} → found l x ≡ some f → (d : Def M) × (defs p x ≡ some d)
    found_def x q =
        let k = found_in l x q in
        let w = a _ k.0 in
        (w.d, ap (λ z. defs p z) (sym k.1 ∙ w.cell_is) ∙ w.def_is)

    pub alive' : (y : ℕ) (f : Finishing M) → last (p ▹ queried c lent l o r) y ≡ some f → (d : Def M) × (defs (p ▹ queried c lent l o r) y ≡ some d)
    unfolding defs
    alive' y f e = go (found l y) refl
      where
        go : (z : Option (Finishing M)) → found l y ≡ z → (d : Def M) × (defs p y ≡ some d)
        go none q = alive p h y f (sym (last_none p c lent l o r y q) ∙ e)
        go (some g) q = found_def y q

    pub same_defs : (y : ℕ) → defs (p ▹ queried c lent l o r) y ≡ defs p y
    unfolding defs
    same_defs y = refl

    pub same_inputs : (y : ℕ) → defs p y ≡ none → stored blank (p ▹ queried c lent l o r) y ≡ stored blank p y
    same_inputs y n = go (found l y) refl
      where
        go : (z : Option (Finishing M)) → found l y ≡ z → stored blank (p ▹ queried c lent l o r) y ≡ stored blank p y
        go none q = stored_none blank p c lent l o r y q
        go (some g) q = absurd (none_some (state blank p) refl n (found_def y q).1)

    logged : Logged (state blank p) (state blank (p ▹ queried c lent l o r)) (last (p ▹ queried c lent l o r)) same_defs same_inputs l
    logged f i = let q = sound_found (state blank p) l a i in (last_some p c lent l o r f.cell q, stored_some blank p c lent l o r f.cell q)

    landed : {y : ℕ} → (g : Finishing M) × In g l × (g.cell ≡ y) → (g : Finishing M) × (found l y ≡ some g)
    landed (g, i, e) = (g, subst (λ z. found l z ≡ some g) e (sound_found (state blank p) l a i))

    child : (x y : ℕ) {f f' : Finishing M} {e : Def M} → found l x ≡ some f → last (p ▹ queried c lent l o r) x ≡ some f' → In y (cells f'.asks) → defs p y ≡ some e → (g : Finishing M) × (found l y ≡ some g)
    child x y {f} {f'} q u i s =
        let k = found_in l x q in
        let v = last_some p c lent l o r x q in
        let same_f : f' ≡ f = cc in
        let w = a _ k.0 in
        landed (log_inside (state blank p) (state blank (p ▹ queried c lent l o r)) (last (p ▹ queried c lent l o r)) same_defs same_inputs logged w
        (λ g j e. coherent (state blank p) e (a g j) w) (subst (λ z. In y (cells z.asks)) same_f i) s)

    in_log : {x y : ℕ} {f : Finishing M} {e : Def M} → found l x ≡ some f → Reaches (last (p ▹ queried c lent l o r)) x y → defs p y ≡ some e → (g : Finishing M) × (found l y ≡ some g)
    in_log q (directly {x = x} {y = y} u i) s = child x y q u i s
    in_log q (beyond {x = x} {y = y} u i v) s =
        let d = starts (state blank (p ▹ queried c lent l o r)) (last (p ▹ queried c lent l o r)) alive' v in
        in_log (child x y q u i (sym (same_defs y) ∙ d.1)).1 v s

    finished : (x : ℕ) {f : Finishing M} → found l x ≡ some f → Good (p ▹ queried c lent l o r) x (p ▹ queried c lent l o r)
    finished x q = record {
      certified =
          let k = found_in l x q in
          subst (λ z. Cert (state blank (p ▹ queried c lent l o r)) (last (p ▹ queried c lent l o r)) z) k.1
          (log_cert (state blank p) (state blank (p ▹ queried c lent l o r)) (last (p ▹ queried c lent l o r)) same_defs same_inputs logged (a _ k.0));
      back = λ y z. z;
      on = λ y z. z;
      below = λ y z e s. let g = in_log q z (sym (same_defs y) ∙ s) in (p ▹ queried c lent l o r, record { d = e; def_is = s; up = up_some p c lent l o r y g.1; still = then });
    }

    -- at a cell that had its certificate before, the query changes nothing
    agrees : (y : ℕ) → ((d : Def M) → defs p y ≡ some d → Cert (state blank p) (last p) y) → Agree (state blank p) (state blank (p ▹ queried c lent l o r)) (last p) (last (p ▹ queried c lent l o r)) y
    agrees y h' = go (found l y) refl
      where
        go : (z : Option (Finishing M)) → found l y ≡ z → Agree (state blank p) (state blank (p ▹ queried c lent l o r)) (last p) (last (p ▹ queried c lent l o r)) y
        go none q = record { same_def = same_defs y; same_last = last_none p c lent l o r y q; same_value = stored_none blank p c lent l o r y q }
        go (some f) q =
            let d = found_def y q in
            let ce = h' d.0 d.1 in
            let g = of (state blank p) (last p) (alive p h) ce in
            let w = works (state blank p) (last p) (alive p h) ce d.1 g.1 [] (λ z u i. elim i [ ]) in
            let k = found_in l y q in
            let w' = a _ k.0 in
            let e : y ≡ w'.c = sym k.1 ∙ w'.cell_is in
            let m = alike (state blank p) e (one_def (state blank p) e d.1 w'.def_is) refl w.steps w'.steps in
            let same_f : g.0 ≡ f = ends_one m.0 w.ends w'.ends in
            record {
              same_def = same_defs y;
              same_last = last_some p c lent l o r y q ∙ ap some (sym same_f) ∙ sym g.1;
              same_value = stored_some blank p c lent l o r y q ∙ ap (λ z. z.result) (sym same_f) ∙ sym g.2;
            }

    pub query_case : All p → All (p ▹ queried c lent l o r)
    unfolding All
    query_case all x t w = go (found l x) refl
      where
        unfinished : found l x ≡ none → Good (p ▹ queried c lent l o r) x t
        unfinished q =
            let up₀ : up_to p x ≡ some t = sym (up_none p c lent l o r x q) ∙ w.up in
            let b = before blank p (queried c lent l o r) x t up₀ w.still in
            let good = all x t (record { d = w.d; def_is = sym (same_defs x) ∙ w.def_is; up = up₀; still = b.0 }) in
            next p (queried c lent l o r) x t all good b.1
            (agrees x (λ d s. good.certified))
            (λ y z. agrees y (λ d s. reach_cert (state blank p) (last p) (alive p h) good.certified z s))
            (λ y z. ups y (found l y) refl)
          where
            ups : (y : ℕ) (z : Option (Finishing M)) → found l y ≡ z → (up_to (p ▹ queried c lent l o r) y ≡ up_to p y) ⊎ (up_to (p ▹ queried c lent l o r) y ≡ some (p ▹ queried c lent l o r))
            ups y none q = inl (up_none p c lent l o r y q)
            ups y (some g) q = inr (up_some p c lent l o r y q)

        go : (z : Option (Finishing M)) → found l x ≡ z → Good (p ▹ queried c lent l o r) x t
        go none q = unfinished q
        go (some f) q = let u = w.up in let e : (p ▹ queried c lent l o r) ≡ t = cc (up_some p c lent l o r x q) in subst (λ z. Good (p ▹ queried c lent l o r) x z) e (finished x q)

  pub settled_good : (p : Past M) → Lawful blank locks stands depth p → (x : ℕ) (t : Past M) → Settled p x t → Good p x t
  unfolding Lawful Right All up_to
  settled_good (start s) h x t w = absurd (no_some w.up)
  settled_good (p ▹ refused q said) h x t w = refused_case p q said (λ y u. settled_good p h.0 y u) x t w
  settled_good (p ▹ edited c v) h x t w = edit_case p c v (edit_free locks stands p c (Ok v) h.2) (λ y u. settled_good p h.0 y u) x t w
  settled_good (p ▹ defined c text d) h x t w = define_case p c text d (λ y u. settled_good p h.0 y u) x t w
  settled_good (p ▹ cleared c) h x t w = clear_case p c (λ y u. settled_good p h.0 y u) x t w
  settled_good (p ▹ queried c lent l o r) h x t w = query_case p h.0 c lent l o r (λ f i. all_whole (state blank p) h.2.1 i) (λ y u. settled_good p h.0 y u) x t w

  pub settled_sure : {p : Past M} {x : ℕ} {t : Past M} → Settled p x t → ¬ InDoubt blank p x
  settled_sure w = still_sure blank w.up w.still

  pub sure_settled : (p : Past M) (x : ℕ) {d : Def M} → defs p x ≡ some d → ¬ InDoubt blank p x → (t : Past M) × Settled p x t
  sure_settled p x {d} s n = go (up_to p x) refl
    where
      go : (z : Option (Past M)) → up_to p x ≡ z → (t : Past M) × Settled p x t
      go none e = absurd (n (x, never s e))
      go (some t) e = (t, record { d = d; def_is = s; up = e; still = extend_still blank (up_extends p x t e) (λ y f. n (y, touched s e f)) })

  pub sure_current : (p : Past M) → Lawful blank locks stands depth p → (x : ℕ) (d : Def M) → defs p x ≡ some d → ¬ InDoubt blank p x → UpToDate blank p x
  sure_current p h x d s n =
      let t = sure_settled p x s n in
      let good = settled_good p h x t.0 t.1 in
      let g = of (state blank p) (last p) (alive p h) good.certified in
      let w = works (state blank p) (last p) (alive p h) good.certified s g.1 [] (λ z u i. elim i [ ]) in
      record {
        finishing = g.0;
        last_is = g.1;
        log = w.ends.pre;
        afresh = subst (λ z. Afresh (state blank p) [] x z (gave (stored blank p x))) w.ends.is (worked s (subst (λ z. Steps (state blank p) (x ∷ []) x d [] w.log (gave z)) (sym g.2) w.steps));
        below = λ y r e s'. settled_sure (good.below y r e s').1;
      }
