-- The answers of edits, definitions and clearings, one lemma for each way through a call.
use Rattle.std.proofs.Common.{◌≡◌, ℕ, ◌<◌, Bool, true, false, List, [], map, Ok, Err, Result, sym, refl, ap, ◌∙◌, subst}
use mathlib.Core.Path.{fun_ext}
use mathlib.Core.Option.{Option, none, some}
use native.Mathlib.Decide.{ℕ_discrete}
use Rattle.std.proofs.lemmas.Bool.{both_ways}
use Rattle.interfaces.specs.Asks.{asked_cells}
use Rattle.interfaces.specs.Cells.{cell_count, number_of, but}
use Rattle.interfaces.specs.Refusals.{Said, no as refusedWith}
use Rattle.interfaces.specs.Tasks.{Def, Verdict, placing}
use Rattle.interfaces.specs.Traces.{Trace}
use Rattle.past.specs.Past.{edit, define, clear, Past, start, defs, stored, kept, last, runs_of, Cause, never, touched, InDoubt}
use Rattle.past.proofs.Lists.{no_some}
use Rattle.past.proofs.Table.{clear_refused, edit_refused, edit_locked, edit_unread, define_locked, placed}
use Rattle.view.specs.View.{View, is_defined, Shows}
use Rattle.table.specs.declared.Record.{Record}
use Rattle.table.specs.Records.{number_in, marked_in, cause_in, asked_in}
use Rattle.table.specs.Marks.{Grounded, Doubts, falls, stays, Marks}
use Rattle.table.proofs.Marking.{but_here, but_away}
use Rattle.calls.specs.Answers.{Answers}
use Rattle.calls.proofs.Falling.{some_defined, none_undefined, shows_grounded}
use Rattle.calls.proofs.Left.{Edited, Renewed, take_none, never_locked, refusal, edit_same, edit_touches, define_done, clear_done}

-- a view, by the meanings of the parts and the records
abbrev pub view_by : {M : Type 0} → (ℕ → M) → (ℕ → Bool) → (ℕ → Option (Def M)) → (ℕ → List (Trace M)) → (ℕ → Record) → View M
view_by stored locked defs traces rows = record { stored = stored; locked = locked; defs = defs; traces = traces; marked = marked_in rows; cause = cause_in rows; asked = asked_in rows }

module _ {M : Type 0} (blank : M) (stands : List ℕ → Verdict M) (depth : ℕ) (same : (v w : M) → Dec (v ≡ w)) (w : View M) (c : ℕ) (n : c < cell_count) where
  -- what the view says of the past
  module _ (locks : ℕ → Bool) (p : Past M) (s : Shows blank locks depth p w) where
    is_input : w.marked c ≡ false → defs p c ≡ none
    is_input m = none_undefined (defs p c) (sym (s.marks_are c) ∙ m)

    is_defined_lem : w.marked c ≡ true → (d : Def M) × (defs p c ≡ some d)
    is_defined_lem m = some_defined (defs p c) (sym (s.marks_are c) ∙ m)

    lock_is : (b : Bool) → w.locked c ≡ b → locks c ≡ b
    lock_is b l = sym (s.locks_are c) ∙ l

  -- edits
  pub edit_defined : (g : Result M Said) → w.marked c ≡ true → Answers blank stands depth (edit c g) (Err (refusedWith 2)) w w
  edit_defined g m locks p h s = refusal blank locks stands depth same p h w s (edit c g) (refusedWith 2) n (edit_refused locks stands p c g (is_defined_lem locks p s m).1)

  pub edit_of_locked : (g : Result M Said) → w.marked c ≡ false → w.locked c ≡ true → Answers blank stands depth (edit c g) (Err (refusedWith 3)) w w
  edit_of_locked g m l locks p h s = refusal blank locks stands depth same p h w s (edit c g) (refusedWith 3) n (edit_locked locks stands p c g (is_input locks p s m) (lock_is locks p s true l))

  pub edit_bad : (why : Said) → w.marked c ≡ false → w.locked c ≡ false → Answers blank stands depth (edit c (Err why)) (Err why) w w
  edit_bad why m l locks p h s = refusal blank locks stands depth same p h w s (edit c (Err why)) why n (edit_unread locks stands p c why (is_input locks p s m) (lock_is locks p s false l))

  pub edit_equal : (v : M) → w.marked c ≡ false → w.locked c ≡ false → v ≡ w.stored c → Answers blank stands depth (edit c (Ok v)) (Ok tt) w w
  edit_equal v m l e locks p h s = edit_same blank locks stands depth same p h w s c v n (is_input locks p s m) (lock_is locks p s false l) e

  pub edit_new : (v : M) (w' : View M) → w.marked c ≡ false → w.locked c ≡ false → ¬ (v ≡ w.stored c) → (Grounded w.marked w.cause w.asked → Edited c v w w')
      → Answers blank stands depth (edit c (Ok v)) (Ok tt) w w'
  edit_new v w' m l e r locks p h s =
      edit_touches blank locks stands depth same p h w s c v n (is_input locks p s m) (lock_is locks p s false l) w' e (r (shows_grounded blank locks stands depth same p h w s))

  -- definitions
  pub define_of_locked : (text : List ℕ) → w.locked c ≡ true → Answers blank stands depth (define c text) (Err (refusedWith 3)) w w
  define_of_locked text l locks p h s = refusal blank locks stands depth same p h w s (define c text) (refusedWith 3) n (define_locked locks stands p c text (lock_is locks p s true l))

  pub define_bad : (text : List ℕ) (why : Said) → w.locked c ≡ false → placing stands text ≡ Err why → (defs' : ℕ → Option (Def M)) → ((x : ℕ) → defs' x ≡ w.defs x)
      → Answers blank stands depth (define c text) (Err why) w (record { stored = w.stored; locked = w.locked; defs = defs'; traces = w.traces; marked = w.marked; cause = w.cause; asked = w.asked })
  define_bad text why l e defs' f =
      subst (λ z. Answers blank stands depth (define c text) (Err why) w (record { stored = w.stored; locked = w.locked; defs = z; traces = w.traces; marked = w.marked; cause = w.cause; asked = w.asked }))
      (sym (fun_ext f)) (λ locks p h s. refusal blank locks stands depth same p h w s (define c text) why n ((placed locks stands p c text (lock_is locks p s false l)).refuses why e))

  pub define_new : (text : List ℕ) (d : Def M) (w' : View M) → w.locked c ≡ false → placing stands text ≡ Ok d → ((x : ℕ) → w'.stored x ≡ w.stored x)
      → (Grounded w.marked w.cause w.asked → Renewed c (some d) (some c) w w') → Answers blank stands depth (define c text) (Ok tt) w w'
  define_new text d w' l e st r locks p h s =
      define_done blank locks stands depth same p h w s c text d n (lock_is locks p s false l) e w' st (r (shows_grounded blank locks stands depth same p h w s))

  -- clearings
  pub clear_input : w.marked c ≡ false → Answers blank stands depth (clear c) (Err (refusedWith 4)) w w
  clear_input m locks p h s = refusal blank locks stands depth same p h w s (clear c) (refusedWith 4) n (clear_refused locks stands p c (is_input locks p s m))

  -- no past leaves a defined cell locked
  pub clear_of_locked : (r : Result (Unit {0}) Said) (w' : View M) → w.marked c ≡ true → w.locked c ≡ true → Answers blank stands depth (clear c) r w w'
  clear_of_locked r w' m l locks p h s =
      let d = is_defined_lem locks p s m in
      absurd (both_ways (locks c) (never_locked blank locks stands depth p h c d.0 d.1) (lock_is locks p s true l))

  pub clear_new : (w' : View M) → w.marked c ≡ true → ((x : ℕ) → w'.stored x ≡ but c blank w.stored x)
      → (Grounded w.marked w.cause w.asked → Renewed c none none w w') → Answers blank stands depth (clear c) (Ok tt) w w'
  clear_new w' m st r locks p h s =
      clear_done blank locks stands depth same p h w s c n (is_defined_lem locks p s m).1 w' st (r (shows_grounded blank locks stands depth same p h w s))

-- the records after a marking, and after a marking and the change of the touched cell's own record
module _ {M : Type 0} (stored stored' : ℕ → M) (locked locked' : ℕ → Bool) (defs' defs'' : ℕ → Option (Def M)) (traces traces' : ℕ → List (Trace M)) (rows rows₁ : ℕ → Record) (c : ℕ) (m : Marks c rows rows₁) where
  pub edited_by : (v : M) → ((x : ℕ) → stored' x ≡ but c v stored x) → ((x : ℕ) → locked' x ≡ locked x) → ((x : ℕ) → defs'' x ≡ defs' x) → ((x : ℕ) → traces' x ≡ traces x)
      → Edited c v (view_by stored locked defs' traces rows) (view_by stored' locked' defs'' traces' rows₁)
  edited_by v st l d t = record { stored_is = st; locked_is = l; defs_is = d; traces_is = t; marked_is = m.same_marks; asked_is = m.same_asked; cause_is = m.doubts }

  module _ (rows₂ : ℕ → Record) (row : Record) (changed : (x : ℕ) → rows₂ x ≡ but c row rows₁ x) where
    own : rows₂ c ≡ row
    own = changed c ∙ but_here c row rows₁ c refl

    other : (x : ℕ) → ¬ (x ≡ c) → rows₂ x ≡ rows₁ x
    other x k = changed x ∙ but_away c row rows₁ x k

    marks_now : (b : Bool) → row.defined ≡ b → (x : ℕ) → Dec (x ≡ c) → marked_in rows₂ x ≡ but c b (marked_in rows) x
    marks_now b e x (yes q) = ap (λ r. r.defined) (ap rows₂ q ∙ own) ∙ e ∙ sym (but_here c b (marked_in rows) x q)
    marks_now b e x (no k) = ap (λ r. r.defined) (other x k) ∙ m.same_marks x ∙ sym (but_away c b (marked_in rows) x k)

    asked_now : asked_cells row.asked ≡ [] → (x : ℕ) → Dec (x ≡ c) → asked_in rows₂ x ≡ but c [] (asked_in rows) x
    asked_now e x (yes q) = ap (λ r. map number_of (asked_cells r.asked)) (ap rows₂ q ∙ own) ∙ ap (map number_of) e ∙ sym (but_here c [] (asked_in rows) x q)
    asked_now e x (no k) = ap (λ r. map number_of (asked_cells r.asked)) (other x k) ∙ m.same_asked x ∙ sym (but_away c [] (asked_in rows) x k)

    doubts_now : (x : ℕ) → ¬ (x ≡ c) → Doubts c (marked_in rows) (cause_in rows) (cause_in rows₂) (asked_in rows) x
    doubts_now x k = go (m.doubts x)
      where
        go : Doubts c (marked_in rows) (cause_in rows) (cause_in rows₁) (asked_in rows) x → Doubts c (marked_in rows) (cause_in rows) (cause_in rows₂) (asked_in rows) x
        go (falls a b l e) = falls a b l (ap (λ r. number_in r.cause) (other x k) ∙ e)
        go (stays a e) = stays a (ap (λ r. number_in r.cause) (other x k) ∙ e)

    pub renewed_by : (d : Option (Def M)) (why : Option ℕ) → row.defined ≡ is_defined d → number_in row.cause ≡ why → asked_cells row.asked ≡ []
        → ((x : ℕ) → locked' x ≡ locked x) → ((x : ℕ) → defs'' x ≡ but c d defs' x) → ((x : ℕ) → traces' x ≡ but c [] traces x)
        → Renewed c d why (view_by stored locked defs' traces rows) (view_by stored' locked' defs'' traces' rows₂)
    renewed_by d why e f z l dd t = record {
      locked_is = l;
      defs_is = dd;
      traces_is = t;
      marked_is = λ x. marks_now (is_defined d) e x (ℕ_discrete x c);
      asked_is = λ x. asked_now z x (ℕ_discrete x c);
      cause_here = ap (λ r. number_in r.cause) own ∙ f;
      cause_away = doubts_now;
    }

-- a workbook that was just made: every cell is an input
module _ {M : Type 0} (blank : M) (locks : ℕ → Bool) (depth : ℕ) (values : ℕ → M) where
  bare : (x : ℕ) → ¬ InDoubt blank (start values) x
  unfolding defs
  bare x i = go i.1
    where
      go : {y : ℕ} → Cause blank (start values) x y → ⊥
      go (never e u) = no_some e
      go (touched e u f) = no_some e

  pub made_shows : (w : View M) → ((x : ℕ) → w.stored x ≡ values x) → ((x : ℕ) → w.locked x ≡ locks x) → ((x : ℕ) → w.defs x ≡ none) → ((x : ℕ) → w.traces x ≡ [])
      → ((x : ℕ) → w.marked x ≡ false) → ((x : ℕ) → w.cause x ≡ none) → ((x : ℕ) → w.asked x ≡ []) → Shows blank locks depth (start values) w
  unfolding stored defs kept runs_of last
  made_shows w v l d t m c a = record {
    values_are = v;
    locks_are = l;
    defs_are = d;
    traces_are = λ x. t x ∙ sym (take_none depth);
    marks_are = m;
    doubts = λ x y e. absurd (no_some (sym (c x) ∙ e));
    calm = λ x _. bare x;
    asked_are = a;
  }
