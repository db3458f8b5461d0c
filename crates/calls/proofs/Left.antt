-- What each call leaves: after a lawful past that a view shows, the view changed accordingly shows the past with the call.
use Rattle.std.proofs.Common.{◌≡◌, ℕ, zero, suc, ◌<◌, Bool, true, false, cond, eqb, List, [], take, Ok, Err, sym, refl, ap, ◌∙◌, subst}
use mathlib.Core.Option.{Option, none, some}
use native.Mathlib.Decide.{ℕ_discrete}
use Rattle.interfaces.specs.Cells.{cell_count, but}
use Rattle.interfaces.specs.Refusals.{Said}
use Rattle.interfaces.specs.Tasks.{Def, Verdict, placing}
use Rattle.past.specs.Past.{Request, edit, define, clear, about, Call, refused, edited, defined, cleared, queried, Past, start, ◌▹◌, changed, defs, last, up_to, runs_of, kept, stored, Touches, Cause, never, touched, InDoubt}
use Rattle.past.specs.Law.{locked_define, Refusable, Acceptable, Right, Lawful}
use Rattle.past.proofs.Lists.{no_some}
use Rattle.past.proofs.Since.{changed_here, changed_away}
use Rattle.past.proofs.Table.{clear_fine, edit_fine, placed}
use Rattle.view.specs.View.{View, is_defined, asked_in, Shows}
use Rattle.table.specs.Marks.{Doubts}
use Rattle.table.proofs.Marking.{but_here, but_away}
use Rattle.calls.specs.Answers.{Answered}
use Rattle.calls.proofs.Falling.{old_doubts, old_calm, new_doubts, new_calm}

-- a view after an edit that touches: one value changes, and doubt spreads
pub record Edited {M : Type 0} (c : ℕ) (v : M) (w w' : View M) : Type 0 where
  pub stored_is : (x : ℕ) → w'.stored x ≡ but c v w.stored x
  pub locked_is : (x : ℕ) → w'.locked x ≡ w.locked x
  pub defs_is : (x : ℕ) → w'.defs x ≡ w.defs x
  pub traces_is : (x : ℕ) → w'.traces x ≡ w.traces x
  pub marked_is : (x : ℕ) → w'.marked x ≡ w.marked x
  pub asked_is : (x : ℕ) → w'.asked x ≡ w.asked x
  pub cause_is : (x : ℕ) → Doubts c w.marked w.cause w'.cause w.asked x

-- a view after a definition or a clearing: `d` is the definition from then on, if there is one, and `why` the cause of
-- the cell; its traces and asked cells are gone, and doubt spreads
pub record Renewed {M : Type 0} (c : ℕ) (d : Option (Def M)) (why : Option ℕ) (w w' : View M) : Type 0 where
  pub locked_is : (x : ℕ) → w'.locked x ≡ w.locked x
  pub defs_is : (x : ℕ) → w'.defs x ≡ but c d w.defs x
  pub traces_is : (x : ℕ) → w'.traces x ≡ but c [] w.traces x
  pub marked_is : (x : ℕ) → w'.marked x ≡ but c (is_defined d) w.marked x
  pub asked_is : (x : ℕ) → w'.asked x ≡ but c [] w.asked x
  pub cause_here : w'.cause c ≡ why
  pub cause_away : (x : ℕ) → ¬ (x ≡ c) → Doubts c w.marked w.cause w'.cause w.asked x

but_same : {A : Type 0} (c : ℕ) (a : A) (f g : ℕ → A) (x : ℕ) → f x ≡ g x → but c a f x ≡ but c a g x
but_same c a f g x e = ap (λ z. cond (eqb x c) a z) e

pub take_none : {A : Type 0} (n : ℕ) → take {A = A} n [] ≡ []
take_none zero = refl
take_none (suc n) = refl

module _ {M : Type 0} (blank : M) (locks : ℕ → Bool) (stands : List ℕ → Verdict M) (depth : ℕ) where
  -- a defined cell is never locked
  pub never_locked : (p : Past M) → Lawful blank locks stands depth p → (x : ℕ) (d : Def M) → defs p x ≡ some d → locks x ≡ false
  unfolding Lawful Right Acceptable defs
  never_locked (start s) h x d e = absurd (no_some e)
  never_locked (p ▹ refused q said) h x d e = never_locked p h.0 x d e
  never_locked (p ▹ edited c v) h x d e = never_locked p h.0 x d e
  never_locked (p ▹ defined c text d') h x d e = go (λ e'. never_locked p h.0 x d e') (ℕ_discrete x c)
    where
      free : (b : Bool) → locks c ≡ b → locks c ≡ false
      free false l = l
      free true l = absurd (h.2.0 _ _ (locked_define l))

      go : (defs p x ≡ some d → locks x ≡ false) → Dec (x ≡ c) → locks x ≡ false
      go ih (yes q) = ap locks q ∙ free (locks c) refl
      go ih (no n) = ih (sym (changed_away c (some d') (defs p) x n) ∙ e)
  never_locked (p ▹ cleared c) h x d e = go (λ e'. never_locked p h.0 x d e') (ℕ_discrete x c)
    where
      go : (defs p x ≡ some d → locks x ≡ false) → Dec (x ≡ c) → locks x ≡ false
      go ih (yes q) = absurd (no_some (sym (changed_here c none (defs p) x q) ∙ e))
      go ih (no n) = ih (sym (changed_away c none (defs p) x n) ∙ e)
  never_locked (p ▹ queried c lent log o report) h x d e = never_locked p h.0 x d e

module _ {M : Type 0} (blank : M) (locks : ℕ → Bool) (stands : List ℕ → Verdict M) (depth : ℕ) (same : (v w : M) → Dec (v ≡ w)) (p : Past M) (h : Lawful blank locks stands depth p)
    (w : View M) (s : Shows blank locks depth p w) where
  -- a refused call leaves all as it was
  refused_shows : (q : Request M) (said : Said) → Shows blank locks depth (p ▹ refused q said) w
  unfolding stored defs kept runs_of last up_to Touches
  refused_shows q said = record {
    values_are = s.values_are;
    locks_are = s.locks_are;
    defs_are = s.defs_are;
    traces_are = s.traces_are;
    marks_are = s.marks_are;
    doubts = λ x y e. old_doubts blank locks stands depth same p h (refused q said) x refl refl w s w.cause refl (λ z t. t) y e;
    calm = λ x e. old_calm blank locks stands depth same p h (refused q said) x refl refl w s w.cause refl (λ z t. t) e;
    asked_are = s.asked_are;
  }

  pub refusal : (q : Request M) (said : Said) → about q < cell_count → Refusable locks stands p q said → Answered blank locks stands depth p q (Err said) w
  unfolding Lawful Right
  refusal q said n r = record { call = refused q said; request_is = refl; answer_is = refl; lawful = (h, n, r); shows = refused_shows q said }

  -- edits
  module _ (c : ℕ) (v : M) (n : c < cell_count) (free : defs p c ≡ none) (open' : locks c ≡ false) where
    -- an edit to an equal value touches nothing
    same_shows : v ≡ w.stored c → Shows blank locks depth (p ▹ edited c v) w
    unfolding stored defs kept runs_of last up_to Touches
    same_shows e = record {
      values_are = λ x. s.values_are x ∙ value x (ℕ_discrete x c);
      locks_are = s.locks_are;
      defs_are = s.defs_are;
      traces_are = s.traces_are;
      marks_are = s.marks_are;
      doubts = λ x y q. old_doubts blank locks stands depth same p h (edited c v) x refl refl w s w.cause refl untouched y q;
      calm = λ x q. old_calm blank locks stands depth same p h (edited c v) x refl refl w s w.cause refl untouched q;
      asked_are = s.asked_are;
    }
      where
        value : (x : ℕ) → Dec (x ≡ c) → stored blank p x ≡ changed c v (stored blank p) x
        value x (yes q) = ap (stored blank p) q ∙ sym (s.values_are c) ∙ sym e ∙ sym (changed_here c v (stored blank p) x q)
        value x (no m) = sym (changed_away c v (stored blank p) x m)

        untouched : (y : ℕ) → ¬ ((y ≡ c) × ¬ (v ≡ stored blank p c))
        untouched y t = t.1 (e ∙ s.values_are c)

    pub edit_same : v ≡ w.stored c → Answered blank locks stands depth p (edit c (Ok v)) (Ok tt) w
    unfolding Lawful Right
    edit_same e = record { call = edited c v; request_is = refl; answer_is = refl; lawful = (h, n, edit_fine locks stands p c v free open'); shows = same_shows e }

    -- another value touches the cell
    edited_shows : (w' : View M) → ¬ (v ≡ w.stored c) → Edited c v w w' → Shows blank locks depth (p ▹ edited c v) w'
    unfolding stored defs kept runs_of last up_to Touches changed
    edited_shows w' m r = record {
      values_are = λ x. r.stored_is x ∙ but_same c v w.stored (stored blank p) x (s.values_are x);
      locks_are = λ x. r.locked_is x ∙ s.locks_are x;
      defs_are = λ x. r.defs_is x ∙ s.defs_are x;
      traces_are = λ x. r.traces_is x ∙ s.traces_are x;
      marks_are = λ x. r.marked_is x ∙ s.marks_are x;
      doubts = λ x y q. new_doubts blank locks stands depth same p h (edited c v) x refl refl w s w'.cause c (refl, λ e. m (e ∙ sym (s.values_are c))) (λ y t. t.0) (r.cause_is x) y q;
      calm = λ x q. new_calm blank locks stands depth same p h (edited c v) x refl refl w s w'.cause c (refl, λ e. m (e ∙ sym (s.values_are c))) (λ y t. t.0) (r.cause_is x) q;
      asked_are = λ x. r.asked_is x ∙ s.asked_are x;
    }

    pub edit_touches : (w' : View M) → ¬ (v ≡ w.stored c) → Edited c v w w' → Answered blank locks stands depth p (edit c (Ok v)) (Ok tt) w'
    unfolding Lawful Right
    edit_touches w' m r = record { call = edited c v; request_is = refl; answer_is = refl; lawful = (h, n, edit_fine locks stands p c v free open'); shows = edited_shows w' m r }

  -- definitions and clearings
  module _ (k : Call M) (c : ℕ) (d : Option (Def M)) (why : Option ℕ) (w' : View M) (r : Renewed c d why w w')
      (stored-are : (x : ℕ) → w'.stored x ≡ stored blank (p ▹ k) x) (defs-are' : (x : ℕ) → defs (p ▹ k) x ≡ but c d (defs p) x) (last-are : (x : ℕ) → last (p ▹ k) x ≡ but c none (last p) x)
      (up-are : (x : ℕ) → up_to (p ▹ k) x ≡ but c none (up_to p) x) (runs-are : (x : ℕ) → runs_of (p ▹ k) x ≡ but c [] (runs_of p) x)
      (t : Touches blank p k c) (only : (y : ℕ) → Touches blank p k y → y ≡ c)
      (doubts-here : (y : ℕ) → why ≡ some y → Cause blank (p ▹ k) c y) (calm_here : why ≡ none → ¬ InDoubt blank (p ▹ k) c) where
    renewed_traces : (x : ℕ) → Dec (x ≡ c) → w'.traces x ≡ kept depth (p ▹ k) x
    unfolding kept
    renewed_traces x (yes q) = r.traces_is x ∙ but_here c [] w.traces x q ∙ sym (ap (take depth) (runs-are x ∙ but_here c [] (runs_of p) x q) ∙ take_none depth)
    renewed_traces x (no m) = r.traces_is x ∙ but_away c [] w.traces x m ∙ s.traces_are x ∙ sym (ap (take depth) (runs-are x ∙ but_away c [] (runs_of p) x m))

    renewed_marks : (x : ℕ) → Dec (x ≡ c) → w'.marked x ≡ is_defined (defs (p ▹ k) x)
    renewed_marks x (yes q) = r.marked_is x ∙ but_here c (is_defined d) w.marked x q ∙ sym (ap is_defined (defs-are' x ∙ but_here c d (defs p) x q))
    renewed_marks x (no m) = r.marked_is x ∙ but_away c (is_defined d) w.marked x m ∙ s.marks_are x ∙ sym (ap is_defined (defs-are' x ∙ but_away c d (defs p) x m))

    renewed_asked : (x : ℕ) → Dec (x ≡ c) → w'.asked x ≡ asked_in (last (p ▹ k) x)
    renewed_asked x (yes q) = r.asked_is x ∙ but_here c [] w.asked x q ∙ sym (ap asked_in (last-are x ∙ but_here c none (last p) x q))
    renewed_asked x (no m) = r.asked_is x ∙ but_away c [] w.asked x m ∙ s.asked_are x ∙ sym (ap asked_in (last-are x ∙ but_away c none (last p) x m))

    renewed_doubts : (x y : ℕ) → w'.cause x ≡ some y → Dec (x ≡ c) → Cause blank (p ▹ k) x y
    renewed_doubts x y e (yes q) = subst (λ z. Cause blank (p ▹ k) z y) (sym q) (doubts-here y (sym r.cause_here ∙ ap w'.cause (sym q) ∙ e))
    renewed_doubts x y e (no m) =
        new_doubts blank locks stands depth same p h k x (up-are x ∙ but_away c none (up_to p) x m) (defs-are' x ∙ but_away c d (defs p) x m) w s w'.cause c t only (r.cause_away x m) y e

    renewed_calm : (x : ℕ) → w'.cause x ≡ none → Dec (x ≡ c) → ¬ InDoubt blank (p ▹ k) x
    renewed_calm x e (yes q) = subst (λ z. ¬ InDoubt blank (p ▹ k) z) (sym q) (calm_here (sym r.cause_here ∙ ap w'.cause (sym q) ∙ e))
    renewed_calm x e (no m) =
        new_calm blank locks stands depth same p h k x (up-are x ∙ but_away c none (up_to p) x m) (defs-are' x ∙ but_away c d (defs p) x m) w s w'.cause c t only (r.cause_away x m) e

    renewed_shows : Shows blank locks depth (p ▹ k) w'
    renewed_shows = record {
      values_are = stored-are;
      locks_are = λ x. r.locked_is x ∙ s.locks_are x;
      defs_are = λ x. r.defs_is x ∙ but_same c d w.defs (defs p) x (s.defs_are x) ∙ sym (defs-are' x);
      traces_are = λ x. renewed_traces x (ℕ_discrete x c);
      marks_are = λ x. renewed_marks x (ℕ_discrete x c);
      doubts = λ x y e. renewed_doubts x y e (ℕ_discrete x c);
      calm = λ x e. renewed_calm x e (ℕ_discrete x c);
      asked_are = λ x. renewed_asked x (ℕ_discrete x c);
    }

  -- a cell that was just defined is in doubt by itself
  fresh : (c : ℕ) (text : List ℕ) (d : Def M) (y : ℕ) → some c ≡ some y → Cause blank (p ▹ defined c text d) c y
  unfolding defs up_to
  fresh c text d y e = let q : c ≡ y = cc in subst (λ z. Cause blank (p ▹ defined c text d) c z) q (never (changed_here c (some d) (defs p) c refl) (changed_here c none (up_to p) c refl))

  defined_shows : (c : ℕ) (text : List ℕ) (d : Def M) (w' : View M) → ((x : ℕ) → w'.stored x ≡ w.stored x) → Renewed c (some d) (some c) w w' → Shows blank locks depth (p ▹ defined c text d) w'
  unfolding stored defs runs_of last up_to Touches changed
  defined_shows c text d w' e r = renewed_shows (defined c text d) c (some d) (some c) w' r (λ x. e x ∙ s.values_are x) (λ x. refl) (λ x. refl) (λ x. refl) (λ x. refl) refl (λ y t. t)
      (fresh c text d) (λ q. absurd (no_some (sym q)))

  pub define_done : (c : ℕ) (text : List ℕ) (d : Def M) → c < cell_count → locks c ≡ false → placing stands text ≡ Ok d
      → (w' : View M) → ((x : ℕ) → w'.stored x ≡ w.stored x) → Renewed c (some d) (some c) w w' → Answered blank locks stands depth p (define c text) (Ok tt) w'
  unfolding Lawful Right
  define_done c text d n l e w' st r = record { call = defined c text d; request_is = refl; answer_is = refl; lawful = (h, n, (placed locks stands p c text l).accepts d e); shows = defined_shows c text d w' st r }

  undefined : (c : ℕ) → ¬ InDoubt blank (p ▹ cleared c) c
  unfolding defs
  undefined c i = go i.1
    where
      bare : defs (p ▹ cleared c) c ≡ none
      bare = changed_here c none (defs p) c refl

      go : {y : ℕ} → Cause blank (p ▹ cleared c) c y → ⊥
      go (never e u) = no_some (sym bare ∙ e)
      go (touched e u f) = no_some (sym bare ∙ e)

  cleared_shows : (c : ℕ) (w' : View M) → ((x : ℕ) → w'.stored x ≡ but c blank w.stored x) → Renewed c none none w w' → Shows blank locks depth (p ▹ cleared c) w'
  unfolding stored defs runs_of last up_to Touches changed
  cleared_shows c w' e r = renewed_shows (cleared c) c none none w' r (λ x. e x ∙ but_same c blank w.stored (stored blank p) x (s.values_are x)) (λ x. refl) (λ x. refl) (λ x. refl) (λ x. refl) refl (λ y t. t)
      (λ y q. absurd (no_some q)) (λ _. undefined c)

  pub clear_done : (c : ℕ) {d : Def M} → c < cell_count → defs p c ≡ some d → (w' : View M) → ((x : ℕ) → w'.stored x ≡ but c blank w.stored x) → Renewed c none none w w'
      → Answered blank locks stands depth p (clear c) (Ok tt) w'
  unfolding Lawful Right
  clear_done c n e w' st r = record { call = cleared c; request_is = refl; answer_is = refl; lawful = (h, n, clear_fine locks stands p c e); shows = cleared_shows c w' st r }
