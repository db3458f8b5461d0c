-- The start of a query, and its end: the workbook shows the past with the query, which is lawful.
use Rattle.std.proofs.Common.{◌≡◌, ℕ, ◌<◌, Bool, ◌⊎◌, List, [], sym, refl, ap, ◌∙◌}
use mathlib.Core.Option.{Option, none, some}
use Rattle.interfaces.specs.Cells.{cell_count, work_length}
use Rattle.interfaces.specs.Refusals.{Said, no as refusal}
use Rattle.interfaces.specs.Tasks.{Def, Verdict}
use Rattle.past.specs.Afresh.{Finishing, Log, Outcome, Afresh}
use Rattle.past.specs.Past.{Lent, Run, Request, query, refused, queried, Past, ◌▹◌, found, or_else, result_or, defs, last, up_to, traces_of, runs_of, kept, stored, state, Touches, then, Fallen, falls, fell, Cause, never, touched, InDoubt, end}
use Rattle.past.specs.Law.{Right, Lawful}
use Rattle.past.proofs.Whole.{found_in}
use Rattle.past.proofs.Table.{query_fine, query_refused}
use Rattle.past.proofs.Since.{up_some, up_none}
use Rattle.past.proofs.Doubt.{settled_sure}
use Rattle.view.specs.View.{View, Shows}
use Rattle.midway.specs.Midway.{Mid}

module _ {M : Type 0} (blank : M) (locks : ℕ → Bool) (stands : List ℕ → Verdict M) (depth : ℕ) (same : (v w : M) → Dec (v ≡ w)) (p : Past M) where
  -- at the start nothing has finished
  pub mid_start : (w : View M) → Shows blank locks depth p w → Mid blank locks depth p [] [] w
  unfolding found result_or or_else kept traces_of
  mid_start w s = record {
    full = λ f i. elim i [ ];
    report = end;
    values_are = s.values_are;
    locks_are = s.locks_are;
    defs_are = s.defs_are;
    marks_are = s.marks_are;
    traces_are = s.traces_are;
    doubts = λ x y e. (refl, s.doubts x y e);
    calm = λ x e _. s.calm x e;
    asked_are = s.asked_are;
  }

  module _ (c : ℕ) (lent : Lent) (l : Log M) (o : Outcome M) (r : List (Run M)) where
    fallen_before : {t : Past M} {x y : ℕ} → Fallen blank t x (p ▹ queried c lent l o r) y → Fallen blank t x p y
    unfolding Touches
    fallen_before (falls s u _) = absurd u
    fallen_before (fell f) = f

    -- at the end the workbook shows the past with the query
    pub mid_end : (w : View M) → Mid blank locks depth p l r w → Shows blank locks depth (p ▹ queried c lent l o r) w
    unfolding stored defs last kept runs_of
    mid_end w k = record {
      values_are = k.values_are;
      locks_are = k.locks_are;
      defs_are = k.defs_are;
      traces_are = k.traces_are;
      marks_are = k.marks_are;
      doubts = λ x y e. later_doubt x y (k.doubts x y e);
      calm = λ x e. calmly x e (found l x) refl;
      asked_are = k.asked_are;
    }
      where
        later_doubt : (x y : ℕ) → (found l x ≡ none) × Cause blank p x y → Cause blank (p ▹ queried c lent l o r) x y
        later_doubt x y (n, never s e) = never s (up_none p c lent l o r x n ∙ e)
        later_doubt x y (n, touched s e f) = touched s (up_none p c lent l o r x n ∙ e) (fell f)

        earlier : (x : ℕ) → found l x ≡ none → {y : ℕ} → Cause blank (p ▹ queried c lent l o r) x y → InDoubt blank p x
        earlier x n (never s e) = (x, never s (sym (up_none p c lent l o r x n) ∙ e))
        earlier x n {y} (touched s e f) = (y, touched s (sym (up_none p c lent l o r x n) ∙ e) (fallen_before f))

        calmly : (x : ℕ) → w.cause x ≡ none → (z : Option (Finishing M)) → found l x ≡ z → ¬ InDoubt blank (p ▹ queried c lent l o r) x
        calmly x e none n (y, i) = k.calm x e n (earlier x n i)
        calmly x e (some f) q (y, i) = settled_sure blank locks stands depth same (record { d = fd.0; def_is = fd.1; up = up_some p c lent l o r x q; still = then }) (y, i)
          where
            fd : (d : Def M) × (defs p x ≡ some d)
            fd = let j = found_in l x q in let t = k.full f j.0 in (t.d, ap (λ z. defs p z) (sym j.1) ∙ t.def_is)

    -- and that past is lawful, where the lists lent are long enough
    pub lawful_end : Lawful blank locks stands depth p → c < cell_count → ¬ (lent.report < cell_count) → ¬ (lent.chain < cell_count) → ¬ (lent.work < work_length)
        → Afresh (state blank p) [] c l o → (w : View M) → Mid blank locks depth p l r w → Lawful blank locks stands depth (p ▹ queried c lent l o r)
    unfolding Lawful Right
    lawful_end h s a b e t w k = (h, s, (query_fine locks stands p c lent a b e, t, k.report))

  -- a refused call leaves everything as it was
  module _ (q : Request M) (said : Said) where
    fallen_still : {t : Past M} {x y : ℕ} → Fallen blank t x (p ▹ refused q said) y → Fallen blank t x p y
    unfolding Touches
    fallen_still (falls s u _) = absurd u
    fallen_still (fell f) = f

    pub refused_shows : (w : View M) → Shows blank locks depth p w → Shows blank locks depth (p ▹ refused q said) w
    unfolding stored defs last kept runs_of up_to
    refused_shows w k = record {
      values_are = k.values_are;
      locks_are = k.locks_are;
      defs_are = k.defs_are;
      traces_are = k.traces_are;
      marks_are = k.marks_are;
      doubts = λ x y e. stays x y (k.doubts x y e);
      calm = λ x e i. k.calm x e (i.0, before x i.0 i.1);
      asked_are = k.asked_are;
    }
      where
        stays : (x y : ℕ) → Cause blank p x y → Cause blank (p ▹ refused q said) x y
        stays x y (never s e) = never s e
        stays x y (touched s e f) = touched s e (fell f)

        before : (x y : ℕ) → Cause blank (p ▹ refused q said) x y → Cause blank p x y
        before x y (never s e) = never s e
        before x y (touched s e f) = touched s e (fallen_still f)

  -- a query that is lent too little is rightly refused
  pub refused_lawful : (c : ℕ) (lent : Lent) → Lawful blank locks stands depth p → c < cell_count → (lent.report < cell_count) ⊎ ((lent.chain < cell_count) ⊎ (lent.work < work_length))
      → Lawful blank locks stands depth (p ▹ refused (query c lent) (refusal 1))
  unfolding Lawful Right
  refused_lawful c lent h s e = (h, s, query_refused locks stands p c lent e)
