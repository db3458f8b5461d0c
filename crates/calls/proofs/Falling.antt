-- Doubt and its cause after one more call: the marking by what cells reach now meets what the history says of them.
use Rattle.std.proofs.Common.{◌≡◌, ℕ, Bool, true, false, ◌⊎◌, List, sym, refl, ap, ◌∙◌, subst, inl, inr, arith}
use mathlib.Core.Option.{Option, none, some}
use Rattle.interfaces.specs.Tasks.{Def, Verdict}
use Rattle.past.specs.Past.{Call, Past, ◌▹◌, defs, last, up_to, Reaches, state, Touches, Still, Fallen, falls as falls', fell, Cause, never, touched, InDoubt}
use Rattle.past.specs.Law.{Lawful}
use Rattle.past.proofs.Cert.{starts}
use Rattle.past.proofs.Doubt.{alive, settled_good, sure_settled}
use Rattle.past.proofs.Decided.{bound}
use Rattle.view.specs.View.{View, is_defined, Shows}
use Rattle.table.specs.Marks.{Grounded, Doubts, falls, stays}
use Rattle.calls.proofs.Reach.{leads_reaches, reaches_leads, certified_shallow}

pub some_defined : {M : Type 0} (o : Option (Def M)) → is_defined o ≡ true → (d : Def M) × (o ≡ some d)
some_defined none e = let z : ◌≡◌ {A = ℕ} 0 1 = cc in absurd (omega arith)
some_defined (some d) e = (d, refl)

pub none_undefined : {M : Type 0} (o : Option (Def M)) → is_defined o ≡ false → o ≡ none
none_undefined none e = refl
none_undefined (some d) e = let z : ◌≡◌ {A = ℕ} 0 1 = cc in absurd (omega arith)

module _ {M : Type 0} (blank : M) where
  split_fallen : {t : Past M} {x : ℕ} {p : Past M} {k : Call M} {y : ℕ} → Fallen blank t x (p ▹ k) y
      → (Still blank t x p × Touches blank p k y × Reaches (last t) x y) ⊎ Fallen blank t x p y
  split_fallen (falls' s h r) = inl (s, h, r)
  split_fallen (fell f) = inr f

module _ {M : Type 0} (blank : M) (locks : ℕ → Bool) (stands : List ℕ → Verdict M) (depth : ℕ) (same : (v w : M) → Dec (v ≡ w)) (p : Past M) (h : Lawful blank locks stands depth p) where
  -- what is marked in doubt by walking down the asked cells is grounded
  pub shows_grounded : (w : View M) → Shows blank locks depth p w → Grounded w.marked w.cause w.asked
  shows_grounded w s x m n =
      let d = some_defined (defs p x) (sym (s.marks_are x) ∙ m) in
      let t = sure_settled blank locks stands depth same p x d.1 (s.calm x n) in
      certified_shallow (state blank p) (last p) (alive blank locks stands depth same p h) (bound blank locks stands depth p h) w.asked s.asked_are
      (settled_good blank locks stands depth same p h x t.0 t.1).certified

  -- one more call, at a cell whose definition and last finishing it leaves
  module _ (k : Call M) (x : ℕ) (ups : up_to (p ▹ k) x ≡ up_to p x) (dfs : defs (p ▹ k) x ≡ defs p x) where
    pub keeps_cause : {y : ℕ} → Cause blank p x y → Cause blank (p ▹ k) x y
    keeps_cause (never s u) = never (dfs ∙ s) (ups ∙ u)
    keeps_cause (touched s u f) = touched (dfs ∙ s) (ups ∙ u) (fell f)

    falls_now : {y : ℕ} {d : Def M} → defs p x ≡ some d → ¬ InDoubt blank p x → Touches blank p k y → Reaches (last p) x y → Cause blank (p ▹ k) x y
    falls_now {y} s n t r =
        let w = sure_settled blank locks stands depth same p x s n in
        let g = settled_good blank locks stands depth same p h x w.0 w.1 in
        touched (dfs ∙ s) (ups ∙ w.1.up) (falls' w.1.still t (g.back y r))

    pub stays_calm : ¬ InDoubt blank p x → ((y : ℕ) → Touches blank p k y → ¬ Reaches (last p) x y) → ¬ InDoubt blank (p ▹ k) x
    stays_calm n a i = go i.1
      where
        go : {y : ℕ} → Cause blank (p ▹ k) x y → ⊥
        go (never s u) = n (x, never (sym dfs ∙ s) (sym ups ∙ u))
        go {y} (touched {d = d} {t = t} s u f) = look (split_fallen blank f)
          where
            look : (Still blank t x p × Touches blank p k y × Reaches (last t) x y) ⊎ Fallen blank t x p y → ⊥
            look (inl (st, h', r)) = a y h' ((settled_good blank locks stands depth same p h x t (record { d = d; def_is = sym dfs ∙ s; up = sym ups ∙ u; still = st })).on y r)
            look (inr f') = n (y, touched (sym dfs ∙ s) (sym ups ∙ u) f')

    module _ (w : View M) (s : Shows blank locks depth p w) (cause : ℕ → Option ℕ) where
      -- the call touches nothing
      module _ (e : cause x ≡ w.cause x) (untouched : (y : ℕ) → ¬ Touches blank p k y) where
        pub old_doubts : (y : ℕ) → cause x ≡ some y → Cause blank (p ▹ k) x y
        old_doubts y q = keeps_cause (s.doubts x y (sym e ∙ q))

        pub old_calm : cause x ≡ none → ¬ InDoubt blank (p ▹ k) x
        old_calm q = stays_calm (s.calm x (sym e ∙ q)) (λ y t. absurd (untouched y t))

      -- the call touches the cell `c`, and doubt spreads
      module _ (c : ℕ) (t : Touches blank p k c) (only : (y : ℕ) → Touches blank p k y → y ≡ c) (d : Doubts c w.marked w.cause cause w.asked x) where
        pub new_doubts : (y : ℕ) → cause x ≡ some y → Cause blank (p ▹ k) x y
        new_doubts y q = go d
          where
            go : Doubts c w.marked w.cause cause w.asked x → Cause blank (p ▹ k) x y
            go (stays _ e) = keeps_cause (s.doubts x y (sym e ∙ q))
            go (falls m n l e) =
                let y_is : c ≡ y = cc in
                let f = some_defined (defs p x) (sym (s.marks_are x) ∙ m) in
                subst (λ z. Cause blank (p ▹ k) x z) y_is (falls_now f.1 (s.calm x n) t (leads_reaches (last p) w.asked s.asked_are l))

        pub new_calm : cause x ≡ none → ¬ InDoubt blank (p ▹ k) x
        new_calm q = go d
          where
            go : Doubts c w.marked w.cause cause w.asked x → ¬ InDoubt blank (p ▹ k) x
            go (falls m n l e) = let z : ◌≡◌ {A = ℕ} 0 1 = cc in absurd (omega arith)
            go (stays n e) = stays_calm (s.calm x (sym e ∙ q)) (λ y t' r.
                let f = starts (state blank p) (last p) (alive blank locks stands depth same p h) r in
                n (s.marks_are x ∙ ap is_defined f.1) (sym e ∙ q) (reaches_leads (last p) w.asked s.asked_are (subst (λ z. Reaches (last p) x z) (only y t') r)))
