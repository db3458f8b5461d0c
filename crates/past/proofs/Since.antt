-- What a call leaves at one cell, the pasts that extend a past, and the touches since.
use Rattle.std.proofs.Common.{◌≡◌, ℕ, suc, ◌<◌, ◌≤◌, ◌⊎◌, List, sym, refl, ap, ◌∙◌, subst, inl, inr, arith}
use mathlib.Core.Option.{Option, none, some}
use native.Mathlib.Decide.{ℕ_discrete}
use Rattle.std.proofs.lemmas.Bool.{eq-eqb, ne_eqb}
use Rattle.past.specs.Afresh.{Finishing, Outcome}
use Rattle.past.specs.Past.{Lent, Run, Call, refused, edited, defined, cleared, queried, Past, start, ◌▹◌, changed, found, or_else, result_or, last, up_to, Reaches, stored, Touches, Still, then, since, Fallen, falls, fell, Cause, never, touched, InDoubt}
use Rattle.past.proofs.Lists.{no_some}

pub changed_here : {A : Type 0} (c : ℕ) (a : A) (f : ℕ → A) (x : ℕ) → x ≡ c → changed c a f x ≡ a
unfolding changed
changed_here c a f x e = rw (eq-eqb x c e) refl

pub changed_away : {A : Type 0} (c : ℕ) (a : A) (f : ℕ → A) (x : ℕ) → ¬ (x ≡ c) → changed c a f x ≡ f x
unfolding changed
changed_away c a f x n = rw (ne_eqb x c n) refl

module _ {M : Type 0} where
  pub size : Past M → ℕ
  size (start s) = 0
  size (p ▹ k) = suc (size p)

  -- a query, at a cell that it finishes and at another
  module _ (p : Past M) (c : ℕ) (lent : Lent) (l : List (Finishing M)) (o : Outcome M) (r : List (Run M)) (x : ℕ) where
    pub last_some : {g : Finishing M} → found l x ≡ some g → last (p ▹ queried c lent l o r) x ≡ some g
    unfolding last or_else
    last_some q = rw q refl

    pub last_none : found l x ≡ none → last (p ▹ queried c lent l o r) x ≡ last p x
    unfolding last or_else
    last_none q = rw q refl

    pub up_some : {g : Finishing M} → found l x ≡ some g → up_to (p ▹ queried c lent l o r) x ≡ some (p ▹ queried c lent l o r)
    unfolding up_to
    up_some q = rw (q, up_to) refl

    pub up_none : found l x ≡ none → up_to (p ▹ queried c lent l o r) x ≡ up_to p x
    unfolding up_to
    up_none q = rw (q, up_to) refl

  pub data Extends (t : Past M) : Past M → Type 0 where
    same_past : Extends t t
    more : {p : Past M} {k : Call M} → Extends t p → Extends t (p ▹ k)

  pub up_extends : (p : Past M) (x : ℕ) (t : Past M) → up_to p x ≡ some t → Extends t p
  unfolding up_to
  up_extends (start s) x t e = absurd (no_some e)
  up_extends (p ▹ refused q said) x t e = more (up_extends p x t e)
  up_extends (p ▹ edited c v) x t e = more (up_extends p x t e)
  up_extends (p ▹ defined c text d) x t e = go (λ e'. up_extends p x t e') (ℕ_discrete x c)
    where
      go : (up_to p x ≡ some t → Extends t p) → Dec (x ≡ c) → Extends t (p ▹ defined c text d)
      go ih (yes q) = absurd (no_some (sym (changed_here c none (up_to p) x q) ∙ e))
      go ih (no n) = more (ih (sym (changed_away c none (up_to p) x n) ∙ e))
  up_extends (p ▹ cleared c) x t e = go (λ e'. up_extends p x t e') (ℕ_discrete x c)
    where
      go : (up_to p x ≡ some t → Extends t p) → Dec (x ≡ c) → Extends t (p ▹ cleared c)
      go ih (yes q) = absurd (no_some (sym (changed_here c none (up_to p) x q) ∙ e))
      go ih (no n) = more (ih (sym (changed_away c none (up_to p) x n) ∙ e))
  up_extends (p ▹ queried c lent l o r) x t e = go (λ e'. up_extends p x t e') (found l x) refl
    where
      go : (up_to p x ≡ some t → Extends t p) → (z : Option (Finishing M)) → found l x ≡ z → Extends t (p ▹ queried c lent l o r)
      go ih none q = more (ih (sym (up_none p c lent l o r x q) ∙ e))
      go ih (some g) q = let k : (p ▹ queried c lent l o r) ≡ t = cc (up_some p c lent l o r x q) in subst (λ z. Extends z (p ▹ queried c lent l o r)) k same_past

  extends_small : {t p : Past M} → Extends t p → size t ≤ size p
  unfolding size
  extends_small same_past = omega arith
  extends_small (more e) = omega (arith, extends_small e)

  up_small : (p : Past M) (x : ℕ) (t : Past M) → up_to p x ≡ some t → size t ≤ size p
  up_small p x t e = extends_small (up_extends p x t e)

module _ {M : Type 0} (blank : M) where
  -- the value that a query stores
  module _ (p : Past M) (c : ℕ) (lent : Lent) (l : List (Finishing M)) (o : Outcome M) (r : List (Run M)) (x : ℕ) where
    pub stored_some : {g : Finishing M} → found l x ≡ some g → stored blank (p ▹ queried c lent l o r) x ≡ g.result
    unfolding stored result_or
    stored_some q = ap (λ z. result_or z (stored blank p x)) q

    pub stored_none : found l x ≡ none → stored blank (p ▹ queried c lent l o r) x ≡ stored blank p x
    unfolding stored result_or
    stored_none q = ap (λ z. result_or z (stored blank p x)) q

  pub peel : {x : ℕ} {p : Past M} {k : Call M} {t : Past M} → Still blank t x (p ▹ k)
      → (t ≡ (p ▹ k)) ⊎ (Still blank t x p × ((y : ℕ) → Touches blank p k y → ¬ Reaches (last t) x y))
  peel then = inl refl
  peel (since s h) = inr (s, h)

  -- where the call did not finish the cell, it was settled before, and the call touched nothing that it reached
  pub before : (p : Past M) (k : Call M) (x : ℕ) (t : Past M) → up_to p x ≡ some t → Still blank t x (p ▹ k)
      → Still blank t x p × ((y : ℕ) → Touches blank p k y → ¬ Reaches (last t) x y)
  unfolding size
  before p k x t e s = go (peel s)
    where
      go : (t ≡ (p ▹ k)) ⊎ (Still blank t x p × ((y : ℕ) → Touches blank p k y → ¬ Reaches (last t) x y)) → Still blank t x p × ((y : ℕ) → Touches blank p k y → ¬ Reaches (last t) x y)
      go (inl q) = absurd (omega (arith, ap size q, up_small p x t e))
      go (inr w) = w

  still_small : {t : Past M} {x : ℕ} {p : Past M} → Still blank t x p → size t ≤ size p
  unfolding size
  still_small then = omega arith
  still_small (since s h) = omega (arith, still_small s)

  fallen_small : {t : Past M} {x : ℕ} {p : Past M} {y : ℕ} → Fallen blank t x p y → size t < size p
  unfolding size
  fallen_small (falls s h r) = omega (arith, still_small s)
  fallen_small (fell f) = omega (arith, fallen_small f)

  pub still_fallen : {t : Past M} {x : ℕ} {p : Past M} {y : ℕ} → Fallen blank t x p y → Still blank t x p → ⊥
  unfolding size
  still_fallen {t} {x} {y} (falls {p = p} {k = k} s h r) s' = go (peel s')
    where
      go : (t ≡ (p ▹ k)) ⊎ (Still blank t x p × ((y : ℕ) → Touches blank p k y → ¬ Reaches (last t) x y)) → ⊥
      go (inl e) = omega (arith, ap size e, still_small s)
      go (inr w) = w.1 y h r
  still_fallen {t} {x} {y} (fell {p = p} {k = k} f) s' = go (λ w. still_fallen f w) (peel s')
    where
      go : (Still blank t x p → ⊥) → (t ≡ (p ▹ k)) ⊎ (Still blank t x p × ((y : ℕ) → Touches blank p k y → ¬ Reaches (last t) x y)) → ⊥
      go ih (inl e) = omega (arith, ap size e, fallen_small f)
      go ih (inr w) = ih w.0

  pub extend_still : {t p : Past M} {x : ℕ} → Extends t p → ((y : ℕ) → ¬ Fallen blank t x p y) → Still blank t x p
  extend_still same_past n = then
  extend_still (more e) n = let s = extend_still e (λ y f. n y (fell f)) in since s (λ y h r. n y (falls s h r))

  -- a touch is on one cell
  pub one_touch : (p : Past M) (k : Call M) {y y' : ℕ} → Touches blank p k y → Touches blank p k y' → y ≡ y'
  unfolding Touches
  one_touch p (refused q said) h h' = absurd h
  one_touch p (edited c v) h h' = h.0 ∙ sym h'.0
  one_touch p (defined c text d) h h' = h ∙ sym h'
  one_touch p (cleared c) h h' = h ∙ sym h'
  one_touch p (queried c lent l o r) h h' = absurd h

  fallen_one : {t : Past M} {x : ℕ} {p : Past M} {y y' : ℕ} → Fallen blank t x p y → Fallen blank t x p y' → y ≡ y'
  fallen_one (falls {p = p} {k = k} s h r) (falls s' h' r') = one_touch p k h h'
  fallen_one (falls s h r) (fell f) = absurd (still_fallen f s)
  fallen_one (fell f) (falls s h r) = absurd (still_fallen f s)
  fallen_one (fell f) (fell f') = fallen_one f f'

  -- a cell has one cause
  pub cause_one : {p : Past M} {x y y' : ℕ} → Cause blank p x y → Cause blank p x y' → y ≡ y'
  cause_one (never _ _) (never _ _) = refl
  cause_one (never _ e) (touched _ e' _) = absurd (no_some (sym e ∙ e'))
  cause_one (touched _ e _) (never _ e') = absurd (no_some (sym e' ∙ e))
  cause_one {p} {x} {y} (touched {t = t} _ e f) (touched {t = t'} _ e' f') = let q : t ≡ t' = cc in fallen_one (subst (λ z. Fallen blank z x p y) q f) f'

  -- a cell on whose reach no touch has fallen is not in doubt
  pub still_sure : {p : Past M} {x : ℕ} {t : Past M} → up_to p x ≡ some t → Still blank t x p → ¬ InDoubt blank p x
  still_sure {p} {x} {t} u s i = go i.1
    where
      go : {y : ℕ} → Cause blank p x y → ⊥
      go (never _ e) = no_some (sym e ∙ u)
      go {y} (touched {t = t'} _ e f) = let q : t' ≡ t = cc in still_fallen (subst (λ z. Fallen blank z x p y) q f) s
