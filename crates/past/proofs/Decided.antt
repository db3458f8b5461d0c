-- Doubt, fitting and runs are decided, so that every lawful past goes on, and in one way; and a cell has one cause.
use Rattle.std.proofs.Common.{◌≡◌, ℕ, ◌<◌, ◌≤◌, Bool, ◌⊎◌, List, [], ◌∷◌, Ok, Err, sym, refl, ap, ◌∙◌, subst, inl, inr, arith}
use mathlib.Core.Option.{Option, none, some}
use native.Mathlib.Decide.{ℕ_discrete}
use Rattle.interfaces.specs.Cells.{cell_count}
use Rattle.interfaces.specs.Refusals.{Said}
use Rattle.interfaces.specs.Tasks.{Def, Verdict, legal, illegal}
use Rattle.interfaces.specs.Traces.{Pair, Trace}
use Rattle.past.specs.Afresh.{In, first, later, State, Finishing, Outcome, gave, fault, Afresh}
use Rattle.past.specs.Past.{Lent, Run, Request, edit, define, clear, query, Call, refused, edited, defined, cleared, queried, request, about, Past, start, ◌▹◌, changed, cells, found, defs, last, up_to, Reaches, directly, beyond, kept, stored, state, Touches, Still, then, since, Fallen, falls, fell, never, touched, InDoubt, Fits, Runs, Report, end, ran, idle, again}
use Rattle.past.specs.Law.{not_in_language, no_value, Refusable, Acceptable, Right, Lawful}
use Rattle.past.proofs.Lists.{no_some, dec_in, dec_every, dec_not}
use Rattle.past.proofs.Alone.{none_some, afresh_alone}
use Rattle.past.proofs.Total.{total}
use Rattle.past.proofs.Whole.{all_whole}
use Rattle.past.proofs.Cert.{Cert, cert, starts, move_on}
use Rattle.past.proofs.Fitting.{Holds}
use Rattle.past.proofs.Table.{one_refusal, refusal_acceptance, Judged, refusable, acceptable, judge}
use Rattle.past.proofs.Since.{changed_here, changed_away, up_some, up_none, Extends, same_past, more, one_touch, cause_one}
use Rattle.past.proofs.Doubt.{alive, Settled, found_def, settled_good, settled_sure}

module _ {M : Type 0} where
  module _ (b : State M) (F : ℕ → Option (Finishing M)) (alive : (y : ℕ) (f : Finishing M) → F y ≡ some f → (d : Def M) × (b.defs y ≡ some d)) where
    any : (y : ℕ) (cs : List ℕ) → ((z : ℕ) → In z cs → Dec (Reaches F z y)) → Dec ((z : ℕ) × In z cs × Reaches F z y)
    any y [] h = no (λ w. elim w.1 [ ])
    any y (c ∷ cs) h = go (h c (first refl)) (any y cs (λ z i. h z (later i)))
      where
        go : Dec (Reaches F c y) → Dec ((z : ℕ) × In z cs × Reaches F z y) → Dec ((z : ℕ) × In z (c ∷ cs) × Reaches F z y)
        go (yes r) _ = yes (c, first refl, r)
        go (no n) (yes w) = yes (w.0, later w.1, w.2)
        go (no n) (no m) = no (λ w. away w.0 w.1 w.2)
          where
            away : (z : ℕ) → In z (c ∷ cs) → Reaches F z y → ⊥
            away z (first e) r = n (subst (λ z. Reaches F z y) e r)
            away z (later i) r = m (z, i, r)

    dec_reach : {x : ℕ} → Cert b F x → (y : ℕ) → Dec (Reaches F x y)
    dec_reach (cert {x = x} {f = f} s l e i t k) y = go (dec_in y (cells f.asks)) (any y (cells f.asks) (λ z o. below z (b.defs z) refl (λ e' u. dec_reach (k z o e' u) y)))
      where
        below : (z : ℕ) (o : Option (Def M)) → b.defs z ≡ o → ((e : Def M) → b.defs z ≡ some e → Dec (Reaches F z y)) → Dec (Reaches F z y)
        below z none q h = no (λ r. none_some b refl q (starts b F alive r).1)
        below z (some e) q h = h e q

        go : Dec (In y (cells f.asks)) → Dec ((z : ℕ) × In z (cells f.asks) × Reaches F z y) → Dec (Reaches F x y)
        go (yes o) _ = yes (directly l o)
        go (no n) (yes w) = yes (beyond l w.1 w.2)
        go (no n) (no m) = no away
          where
            away : Reaches F x y → ⊥
            away (directly p o) = n (move_on b F alive l p o)
            away (beyond {y = z} p o r) = m (z, move_on b F alive l p o, r)

module _ {M : Type 0} (blank : M) (locks : ℕ → Bool) (stands : List ℕ → Verdict M) (depth : ℕ) where
  -- only cells are defined
  pub bound : (p : Past M) → Lawful blank locks stands depth p → (x : ℕ) → cell_count ≤ x → defs p x ≡ none
  unfolding Lawful defs
  bound (start s) h x n = refl
  bound (p ▹ refused q said) h x n = bound p h.0 x n
  bound (p ▹ edited c v) h x n = bound p h.0 x n
  bound (p ▹ defined c text d) h x n = changed_away c (some d) (defs p) x (λ e. absurd (omega (arith, h.1))) ∙ bound p h.0 x n
  bound (p ▹ cleared c) h x n = go (ℕ_discrete x c) (bound p h.0 x n)
    where
      go : Dec (x ≡ c) → defs p x ≡ none → changed c none (defs p) x ≡ none
      go (yes e) _ = changed_here c none (defs p) x e
      go (no m) q = changed_away c none (defs p) x m ∙ q
  bound (p ▹ queried c lent l o r) h x n = bound p h.0 x n

  -- a log has one report
  report_one : (p : Past M) {seen : List ℕ} {l : List (Finishing M)} {r r' : List (Run M)} → Report blank depth p seen l r → Report blank depth p seen l r' → r ≡ r'
  report_one p end end = refl
  report_one p (ran n u c k) (ran n' u' c' k') = let e = cause_one blank c c' in let e' = report_one p k k' in cc
  report_one p (ran n u c k) (again o k') = absurd (n o)
  report_one p (ran n u c k) (idle n' m k') = absurd (m u)
  report_one p (again o k) (ran n u c k') = absurd (n o)
  report_one p (again o k) (again o' k') = report_one p k k'
  report_one p (again o k) (idle n m k') = absurd (n o)
  report_one p (idle n m k) (ran n' u c k') = absurd (m u)
  report_one p (idle n m k) (again o k') = absurd (n o)
  report_one p (idle n m k) (idle n' m' k') = report_one p k k'

  -- what is refused is not accepted
  torn : {p : Past M} {q q' : Request M} {s : Said} → q ≡ q' → Refusable locks stands p q s → ¬ Acceptable locks stands p q'
  torn {p} {s = s} e r a = refusal_acceptance locks stands p (subst (λ z. Refusable locks stands p z s) e r) a

  one_answer : (p : Past M) {c c' : ℕ} {lent lent' : Lent} {l l' : List (Finishing M)} {o o' : Outcome M} {r r' : List (Run M)} → c ≡ c' → lent ≡ lent'
      → Afresh (state blank p) [] c l o → Report blank depth p [] l r → Afresh (state blank p) [] c' l' o' → Report blank depth p [] l' r'
      → queried c lent l o r ≡ queried c' lent' l' o' r'
  one_answer p {l = l} {o = o} {r = r} e e' a w a' w' =
      let k = afresh_alone (state blank p) (subst (λ z. Afresh (state blank p) [] z l o) e a) a' in
      let k₀ = k.0 in
      let k₁ = k.1 in
      let m = report_one p (subst (λ z. Report blank depth p [] z r) k.0 w) w' in
      cc

  clash : {k k' : Call M} → ◌≡◌ {A = ℕ} 0 1 → k ≡ k'
  clash z = absurd (omega arith)

  -- and no two things
  one_right : (p : Past M) (k k' : Call M) → request k ≡ request k' → Right blank locks stands depth p k → Right blank locks stands depth p k' → k ≡ k'
  unfolding Right
  one_right p (refused q s) (refused q' s') e h h' = let u = one_refusal locks stands p (subst (λ z. Refusable locks stands p z s) e h) h' in cc
  one_right p (refused q s) (edited c v) e h h' = absurd (torn e h h')
  one_right p (refused q s) (defined c t d) e h h' = absurd (torn e h h'.0)
  one_right p (refused q s) (cleared c) e h h' = absurd (torn e h h')
  one_right p (refused q s) (queried c n l o r) e h h' = absurd (torn e h h'.0)
  one_right p (edited c v) (refused q s) e h h' = absurd (torn (sym e) h' h)
  one_right p (defined c t d) (refused q s) e h h' = absurd (torn (sym e) h' h.0)
  one_right p (cleared c) (refused q s) e h h' = absurd (torn (sym e) h' h)
  one_right p (queried c n l o r) (refused q s) e h h' = absurd (torn (sym e) h' h.0)
  one_right p (edited c v) (edited c' v') e h h' = cc
  one_right p (edited c v) (defined c' t d) e h h' = clash (cc)
  one_right p (edited c v) (cleared c') e h h' = clash (cc)
  one_right p (edited c v) (queried c' n l o r) e h h' = clash (cc)
  one_right p (defined c t d) (edited c' v) e h h' = clash (cc)
  one_right p (defined c t d) (defined c' t' d') e h h' = let s = h.1 in let s' = h'.1 in cc
  one_right p (defined c t d) (cleared c') e h h' = clash (cc)
  one_right p (defined c t d) (queried c' n l o r) e h h' = clash (cc)
  one_right p (cleared c) (edited c' v) e h h' = clash (cc)
  one_right p (cleared c) (defined c' t d) e h h' = clash (cc)
  one_right p (cleared c) (cleared c') e h h' = cc
  one_right p (cleared c) (queried c' n l o r) e h h' = clash (cc)
  one_right p (queried c n l o r) (edited c' v) e h h' = clash (cc)
  one_right p (queried c n l o r) (defined c' t d) e h h' = clash (cc)
  one_right p (queried c n l o r) (cleared c') e h h' = clash (cc)
  one_right p (queried c n l o r) (queried c' n' l' o' r') e h h' = one_answer p (cc) (cc) h.1 h.2 h'.1 h'.2

  pub goes_one_way : (p : Past M) (k k' : Call M) → request k ≡ request k' → Lawful blank locks stands depth (p ▹ k) → Lawful blank locks stands depth (p ▹ k') → k ≡ k'
  unfolding Lawful
  goes_one_way p k k' e h h' = one_right p k k' e h.2 h'.2

module _ {M : Type 0} (blank : M) (locks : ℕ → Bool) (stands : List ℕ → Verdict M) (depth : ℕ) (same : (v w : M) → Dec (v ≡ w)) where
  record Then (p : Past M) (x : ℕ) (t : Past M) : Type 0 where
    extends : Extends t p
    idem : up_to t x ≡ some t
    lawful : Lawful blank locks stands depth t
    d : Def M
    def_is : defs t x ≡ some d

  on_then : {p : Past M} {k : Call M} {x : ℕ} {t : Past M} → Then p x t → Then (p ▹ k) x t
  on_then w = record { extends = more w.extends; idem = w.idem; lawful = w.lawful; d = w.d; def_is = w.def_is }

  then_of : (p : Past M) → Lawful blank locks stands depth p → (x : ℕ) (t : Past M) → up_to p x ≡ some t → Then p x t
  unfolding Lawful Right up_to defs
  then_of (start s) h x t e = absurd (no_some e)
  then_of (p ▹ refused q said) h x t e = on_then (then_of p h.0 x t e)
  then_of (p ▹ edited c v) h x t e = on_then (then_of p h.0 x t e)
  then_of (p ▹ defined c text d) h x t e = go (λ e'. then_of p h.0 x t e') (ℕ_discrete x c)
    where
      go : (up_to p x ≡ some t → Then p x t) → Dec (x ≡ c) → Then (p ▹ defined c text d) x t
      go ih (yes q) = absurd (no_some (sym (changed_here c none (up_to p) x q) ∙ e))
      go ih (no n) = on_then (ih (sym (changed_away c none (up_to p) x n) ∙ e))
  then_of (p ▹ cleared c) h x t e = go (λ e'. then_of p h.0 x t e') (ℕ_discrete x c)
    where
      go : (up_to p x ≡ some t → Then p x t) → Dec (x ≡ c) → Then (p ▹ cleared c) x t
      go ih (yes q) = absurd (no_some (sym (changed_here c none (up_to p) x q) ∙ e))
      go ih (no n) = on_then (ih (sym (changed_away c none (up_to p) x n) ∙ e))
  then_of (p ▹ queried c lent l o r) h x t e = go (λ e'. then_of p h.0 x t e') (found l x) refl
    where
      go : (up_to p x ≡ some t → Then p x t) → (z : Option (Finishing M)) → found l x ≡ z → Then (p ▹ queried c lent l o r) x t
      go ih none q = on_then (ih (sym (up_none p c lent l o r x q) ∙ e))
      go ih (some g) q =
          let u = up_some p c lent l o r x q in
          let k : (p ▹ queried c lent l o r) ≡ t = cc in
          let d = found_def blank locks stands depth same p h.0 c lent l o r (λ f i. all_whole (state blank p) h.2.1 i) x q in
          subst (λ z. Then (p ▹ queried c lent l o r) x z) k (record { extends = same_past; idem = u; lawful = h; d = d.0; def_is = d.1 })

  dec_touch : (p : Past M) (k : Call M) → ((y : ℕ) × Touches blank p k y) ⊎ ((y : ℕ) → ¬ Touches blank p k y)
  unfolding Touches
  dec_touch p (refused q said) = inr (λ y h. h)
  dec_touch p (edited c v) = go (same v (stored blank p c))
    where
      go : Dec (v ≡ stored blank p c) → ((y : ℕ) × ((y ≡ c) × ¬ (v ≡ stored blank p c))) ⊎ ((y : ℕ) → ¬ ((y ≡ c) × ¬ (v ≡ stored blank p c)))
      go (yes e) = inr (λ y h. h.1 e)
      go (no n) = inl (c, (refl, n))
  dec_touch p (defined c text d) = inl (c, refl)
  dec_touch p (cleared c) = inl (c, refl)
  dec_touch p (queried c lent l o r) = inr (λ y h. h)

  -- since t, orElse still or fallen
  module _ (x : ℕ) (t : Past M) (dec : (y : ℕ) → Dec (Reaches (last t) x y)) where
    fate : {p : Past M} → Extends t p → Still blank t x p ⊎ ((y : ℕ) × Fallen blank t x p y)
    fate same_past = inl then
    fate (more {p = p} {k = k} e) = go (fate e)
      where
        look : Still blank t x p → ((y : ℕ) × Touches blank p k y) ⊎ ((y : ℕ) → ¬ Touches blank p k y) → Still blank t x (p ▹ k) ⊎ ((y : ℕ) × Fallen blank t x (p ▹ k) y)
        look s (inr n) = inl (since s (λ y h. absurd (n y h)))
        look s (inl (y, h)) = hit (dec y)
          where
            hit : Dec (Reaches (last t) x y) → Still blank t x (p ▹ k) ⊎ ((y : ℕ) × Fallen blank t x (p ▹ k) y)
            hit (yes r) = inr (y, falls s h r)
            hit (no n) = inl (since s (λ z h' r. n (subst (λ w. Reaches (last t) x w) (one_touch blank p k h' h) r)))

        go : Still blank t x p ⊎ ((y : ℕ) × Fallen blank t x p y) → Still blank t x (p ▹ k) ⊎ ((y : ℕ) × Fallen blank t x (p ▹ k) y)
        go (inl s) = look s (dec_touch p k)
        go (inr (y, f)) = inr (y, fell f)

  -- a defined cell is settled or in doubt
  pub decided : (p : Past M) → Lawful blank locks stands depth p → (x : ℕ) (d : Def M) → defs p x ≡ some d → ((t : Past M) × Settled blank locks stands depth same p x t) ⊎ InDoubt blank p x
  decided p h x d s = go (up_to p x) refl
    where
      go : (z : Option (Past M)) → up_to p x ≡ z → ((t : Past M) × Settled blank locks stands depth same p x t) ⊎ InDoubt blank p x
      go none e = inr (x, never s e)
      go (some t) e = end' (fate x t dec w.extends)
        where
          w : Then p x t
          w = then_of p h x t e

          dec : (y : ℕ) → Dec (Reaches (last t) x y)
          dec y = dec_reach (state blank t) (last t) (alive blank locks stands depth same t w.lawful)
              (settled_good blank locks stands depth same t w.lawful x t (record { d = w.d; def_is = w.def_is; up = w.idem; still = then })).certified y

          end' : Still blank t x p ⊎ ((y : ℕ) × Fallen blank t x p y) → ((t : Past M) × Settled blank locks stands depth same p x t) ⊎ InDoubt blank p x
          end' (inl q) = inl (t, record { d = d; def_is = s; up = e; still = q })
          end' (inr (y, f)) = inr (y, touched s e f)

  module _ (p : Past M) (h : Lawful blank locks stands depth p) where
    dec_holds : (q : Pair M) → Dec (Holds (state blank p) q)
    dec_holds q = go (total (state blank p) (bound blank locks stands depth p h) [] q.cell)
      where
        go : (l : List (Finishing M)) × (o : Outcome M) × Afresh (state blank p) [] q.cell l o → Dec (Holds (state blank p) q)
        go (l, gave v, a) = look (same v q.value)
          where
            look : Dec (v ≡ q.value) → Dec (Holds (state blank p) q)
            look (yes e) = yes (l, subst (λ z. Afresh (state blank p) [] q.cell l (gave z)) e a)
            look (no n) = no (λ w. n (unwrap (afresh_alone (state blank p) a w.1).1))
              where
                unwrap : gave v ≡ gave q.value → v ≡ q.value
                unwrap e = cc
        go (l, fault n m c y ch, a) = no (λ w. clash (afresh_alone (state blank p) a w.1).1)
          where
            clash : fault n m c y ch ≡ gave q.value → ⊥
            clash e = let z : ◌≡◌ {A = ℕ} 0 1 = cc in omega arith

    dec_fits : (t : Trace M) → Dec (Fits blank p t)
    unfolding Fits
    dec_fits t = dec_every dec_holds t.asks

    dec_runs : (x : ℕ) (d : Def M) → defs p x ≡ some d → Dec (Runs blank depth p x)
    unfolding Runs
    dec_runs x d s = go (decided p h x d s) (dec_every (λ t. dec_not (dec_fits t)) (kept depth p x))
      where
        go : ((t : Past M) × Settled blank locks stands depth same p x t) ⊎ InDoubt blank p x → Dec ((t : Trace M) → In t (kept depth p x) → ¬ Fits blank p t) → Dec (InDoubt blank p x × ((t : Trace M) → In t (kept depth p x) → ¬ Fits blank p t))
        go (inl (t, w)) _ = no (λ r. settled_sure blank locks stands depth same w r.0)
        go (inr c) (yes f) = yes (c, f)
        go (inr c) (no n) = no (λ r. n r.1)

    report_of : (seen : List ℕ) (l : List (Finishing M)) → ((f : Finishing M) → In f l → (d : Def M) × (defs p f.cell ≡ some d)) → (r : List (Run M)) × Report blank depth p seen l r
    unfolding Runs
    report_of seen [] h' = ([], end)
    report_of seen (f ∷ l) h' = go (dec_in f.cell seen) (dec_runs f.cell (h' f (first refl)).0 (h' f (first refl)).1) (λ s. report_of s l (λ g i. h' g (later i)))
      where
        go : Dec (In f.cell seen) → Dec (Runs blank depth p f.cell) → ((s : List ℕ) → (r : List (Run M)) × Report blank depth p s l r) → (r : List (Run M)) × Report blank depth p seen (f ∷ l) r
        go (yes o) _ ih = let w = ih seen in (w.0, again o w.1)
        go (no n) (no m) ih = let w = ih (f.cell ∷ seen) in (w.0, idle n m w.1)
        go (no n) (yes u) ih = let w = ih (f.cell ∷ seen) in (_, ran n u u.0.1 w.1)

    -- something comes rightly of every request
    pub goes_on : (q : Request M) → about q < cell_count → (k : Call M) × (request k ≡ q) × Lawful blank locks stands depth (p ▹ k)
    unfolding Lawful Right Acceptable
    goes_on q n = go (judge locks stands p q)
      where
        fine : (q : Request M) → about q < cell_count → Acceptable locks stands p q → (k : Call M) × (request k ≡ q) × Lawful blank locks stands depth (p ▹ k)
        fine (edit c (Ok v)) n a = (edited c v, refl, (h, n, a))
        fine (edit c (Err s)) n a = absurd (a _ _ no_value)
        fine (define c text) n a = look (stands text) refl
          where
            look : (z : Verdict M) → stands text ≡ z → (k : Call M) × (request k ≡ define c text) × Lawful blank locks stands depth (p ▹ k)
            look (legal d) e = (defined c text d, refl, (h, n, (a, e)))
            look (illegal place) e = absurd (a _ _ (not_in_language e))
        fine (clear c) n a = (cleared c, refl, (h, n, a))
        fine (query c lent) n a =
            let t = total (state blank p) (bound blank locks stands depth p h) [] c in
            let r = report_of [] t.0 (λ f i. let w = all_whole (state blank p) t.2 i in (w.d, ap (λ z. defs p z) w.cell_is ∙ w.def_is)) in
            (queried c lent t.0 t.1 r.0, refl, (h, n, (a, t.2, r.1)))

        go : Judged locks stands p q → (k : Call M) × (request k ≡ q) × Lawful blank locks stands depth (p ▹ k)
        go (refusable {said = s} r) = (refused q s, refl, (h, n, r))
        go (acceptable a) = fine q n a

  pub dec_doubt : (p : Past M) → Lawful blank locks stands depth p → (x : ℕ) (d : Def M) → defs p x ≡ some d → Dec (InDoubt blank p x)
  dec_doubt p h x d s = go (decided p h x d s)
    where
      go : ((t : Past M) × Settled blank locks stands depth same p x t) ⊎ InDoubt blank p x → Dec (InDoubt blank p x)
      go (inl (t, w)) = no (settled_sure blank locks stands depth same w)
      go (inr c) = yes c
