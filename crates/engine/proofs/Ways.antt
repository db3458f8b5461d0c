-- The ways through the calls of a workbook, one lemma for each.
use Rattle.std.proofs.Common.{◌≡◌, ℕ, ◌<◌, Bool, true, false, cond, eqb, List, [], map, Some, None, Ok, Err, Result, sym, refl, ap, ◌∙◌, subst, MatchResult}
use mathlib.Core.Option.{none as nothing, some}
use base.Stored.{Coded}
use Rattle.std.proofs.lemmas.Bool.{cond-false}
use Rattle.interfaces.specs.declared.refusal.Refusal.{Refusal}
use Rattle.interfaces.specs.declared.asked.Asked.{Asked}
use Rattle.interfaces.specs.declared.cell.Cell.{Cell}
use Rattle.interfaces.specs.declared.value.Value.{Ghosts as ValueMeaning}
use Rattle.interfaces.specs.declared.store.Store.{Ghosts as StoreMeaning}
use Rattle.interfaces.specs.declared.language.Language.{Ghosts as LanguageMeaning}
use Rattle.interfaces.specs.declared.rebuilder.Rebuilder.{Ghosts as RebuilderMeaning}
use Rattle.interfaces.specs.Asks.{asked_cells}
use Rattle.interfaces.specs.Cells.{cell_count, number_of, but}
use Rattle.interfaces.specs.Refusals.{Said, said, told, no as refusedWith}
use Rattle.interfaces.specs.Tasks.{placing, answer, after_placing}
use Rattle.interfaces.proofs.Writes.{refused_locked, accepted_open}
use Rattle.past.specs.Past.{Request, edit, define, clear}
use Rattle.midway.specs.Planning.{plain_trace}
use Rattle.table.specs.declared.Record.{Record}
use Rattle.table.specs.declared.Table.{Table}
use Rattle.table.specs.Records.{number_in, record_in, marked_in, cause_in, asked_in}
use Rattle.table.specs.Marks.{Marks, Grounded}
use Rattle.parts.specs.declared.Parts.{Parts}
use Rattle.parts.specs.Shown.{shown}
use Rattle.calls.specs.Answers.{Answers}
use Rattle.calls.proofs.Answering.{edit_defined, edit_of_locked, edit_bad, edit_equal, edit_new, define_of_locked, define_bad, define_new, clear_input, clear_of_locked, clear_new, edited_by, renewed_by}
use Rattle.engine.specs.Given.{given_of, ReadAs, value, none}
use Rattle.engine.proofs.Equal.{discrete}

-- the promise of a call, over the parts of the workbook
abbrev pub Rightly : {V S L R : Type 0} → ValueMeaning V → StoreMeaning S V → LanguageMeaning L V → RebuilderMeaning R V
    → (before after : Parts S L R) → Request V → Result (Unit {0}) Said → Type 0
Rightly v s l r before after q a = Answers v.blank l.stands r.depth q a (shown v s l r before) (shown v s l r after)

refused_answer : {A : Type 0} (r : Result A Said) (s : Said) → Err s ≡ answer r → r ≡ Err s
refused_answer (Ok a) s e = cc
refused_answer (Err t) s e = let q : s ≡ t = cc in ap Err (sym q)

accepted_answer : {A : Type 0} (r : Result A Said) (u : Unit {0}) → Ok u ≡ answer r → (a : A) × (r ≡ Ok a)
accepted_answer (Ok a) u e = (a, refl)
accepted_answer (Err t) u e = cc

-- what a `?` hands on says what was refused
handed_on : (a : Result (Unit {0}) Refusal) (t e : Refusal) → a ≡ Err t → t ≡ e → Err (said e) ≡ told a
handed_on a t e p q = ap Err (ap said (sym q)) ∙ sym (ap told p)

map_none : {A B : Type 0} (f : A → B) (b : Bool) (x : List A) → map f (cond b [] x) ≡ cond b [] (map f x)
map_none f true x = refl
map_none f false x = refl

-- traces that were forgotten are forgotten as they show, too
forgot : {A B : Type 0} (f : A → B) (c : ℕ) (before after : ℕ → List A) → ((k : ℕ) → after k ≡ but c [] before k)
    → (k : ℕ) → map f (after k) ≡ but c [] (λ j. map f (before j)) k
forgot f c before after h k = ap (map f) (h k) ∙ map_none f (eqb k c) (before k)

-- the parts `now` before a call at the cell `c`, whose record is `row`
module _ {V S L R : Type 0} (v : ValueMeaning V) (s : StoreMeaning S V) (l : LanguageMeaning L V) (r : RebuilderMeaning R V) (coded : Coded V)
    (now : Parts S L R) (c : ℕ) (row : Record) (here : row ≡ record_in now.table c) (n : c < cell_count) where
  same : (x y : V) → Dec (x ≡ y)
  same = discrete coded

  marked_is : (b : Bool) → row.defined ≡ b → marked_in (record_in now.table) c ≡ b
  marked_is b e = ap (λ z. z.defined) (sym here) ∙ e

  -- an edit of a defined cell
  pub gives_to_defined : (g : Result V Said) → row.defined ≡ true → Rightly v s l r now now (edit c g) (Err (refusedWith 2))
  gives_to_defined g m = edit_defined v.blank l.stands r.depth same (shown v s l r now) c n g (marked_is true m)

  module _ (given : Result V Refusal) (m : row.defined ≡ false) where
    -- of a locked one
    pub gives_to_locked : true ≡ s.locked now.store c → Rightly v s l r now now (edit c (given_of v.canon given)) (Err (refusedWith 3))
    gives_to_locked k = edit_of_locked v.blank l.stands r.depth same (shown v s l r now) c n (given_of v.canon given) (marked_is false m) (sym k)

    module _ (k : false ≡ s.locked now.store c) where
      -- of bytes that are no value
      pub gives_none : (a : Result (Unit {0}) Refusal) (t e : Refusal) → given ≡ Err e → a ≡ Err t → t ≡ e → Rightly v s l r now now (edit c (given_of v.canon given)) (told a)
      gives_none a t e g p q = subst (λ z. Rightly v s l r now now (edit c (given_of v.canon z)) (told a)) (sym g)
          (subst (λ z. Rightly v s l r now now (edit c (Err (said e))) z) (handed_on a t e p q) (edit_bad v.blank l.stands r.depth same (shown v s l r now) c n (said e) (marked_is false m) (sym k)))

      module _ (x : V) (g : given ≡ Ok x) where
        -- a value that means the same as before
        pub gives_alike : v.canon x ≡ v.canon (s.shows now.store c) → Rightly v s l r now now (edit c (given_of v.canon given)) (Ok tt)
        gives_alike e = subst (λ z. Rightly v s l r now now (edit c (given_of v.canon z)) (Ok tt)) (sym g) (edit_equal v.blank l.stands r.depth same (shown v s l r now) c n (v.canon x) (marked_is false m) (sym k) e)

        -- another value
        pub gives_new : (store' : S) (table' : Table) → ¬ (v.canon x ≡ v.canon (s.shows now.store c))
            → ((j : ℕ) → v.canon (s.shows store' j) ≡ cond (s.locked now.store c) (v.canon (s.shows now.store j)) (but c (v.canon x) (λ i. v.canon (s.shows now.store i)) j))
            → ((j : ℕ) → s.locked store' j ≡ s.locked now.store j)
            → (Grounded (marked_in (record_in now.table)) (cause_in (record_in now.table)) (asked_in (record_in now.table)) → Marks c (record_in now.table) (record_in table'))
            → Rightly v s l r now (record { store = store'; language = now.language; rebuilder = now.rebuilder; table = table' }) (edit c (given_of v.canon given)) (Ok tt)
        gives_new store' table' ne values locks marks = subst (λ z. Rightly v s l r now (record { store = store'; language = now.language; rebuilder = now.rebuilder; table = table' }) (edit c (given_of v.canon z)) (Ok tt)) (sym g)
            (edit_new v.blank l.stands r.depth same (shown v s l r now) c n (v.canon x) (shown v s l r (record { store = store'; language = now.language; rebuilder = now.rebuilder; table = table' })) (marked_is false m) (sym k) ne
            (λ q. edited_by _ _ _ _ _ _ _ _ (record_in now.table) (record_in table') c (marks q) (v.canon x) (λ j. values j ∙ cond-false _ _ _ (sym k)) locks (λ j. refl) (λ j. refl)))

  -- a definition of a locked cell
  pub places_at_locked : (text : List ℕ) → true ≡ s.locked now.store c → Rightly v s l r now now (define c text) (Err (refusedWith 3))
  places_at_locked text k = define_of_locked v.blank l.stands r.depth same (shown v s l r now) c n text (sym k)

  module _ (text : List ℕ) (k : false ≡ s.locked now.store c) (language' : L) (means : (j : ℕ) → l.means language' j ≡ after_placing (placing l.stands text) c (l.means now.language) j) where
    -- of a text that the language refuses
    pub places_none : (a : Result (Unit {0}) Refusal) (t e : Refusal) → Err (said e) ≡ answer (placing l.stands text) → a ≡ Err t → t ≡ e
        → Rightly v s l r now (record { store = now.store; language = language'; rebuilder = now.rebuilder; table = now.table }) (define c text) (told a)
    places_none a t e h p q =
        let o : placing l.stands text ≡ Err (said e) = refused_answer (placing l.stands text) (said e) h in
        subst (λ z. Rightly v s l r now (record { store = now.store; language = language'; rebuilder = now.rebuilder; table = now.table }) (define c text) z) (handed_on a t e p q)
        (define_bad v.blank l.stands r.depth same (shown v s l r now) c n text (said e) (sym k) o (l.means language') (λ j. means j ∙ ap (λ z. after_placing z c (l.means now.language) j) o))

    -- of a text that it takes
    pub places : (u : Unit {0}) (rebuilder' : R) (table' table'' : Table) (asks : Asked) → Ok u ≡ answer (placing l.stands text) → ((j : ℕ) → r.traces rebuilder' j ≡ but c [] (r.traces now.rebuilder) j)
        → (Grounded (marked_in (record_in now.table)) (cause_in (record_in now.table)) (asked_in (record_in now.table)) → Marks c (record_in now.table) (record_in table'))
        → (cell : Cell) → number_of cell ≡ c → asked_cells asks ≡ []
        → ((j : ℕ) → record_in table'' j ≡ but c (record { defined = true; cause = Some cell; asked = asks }) (record_in table') j)
        → Rightly v s l r now (record { store = now.store; language = language'; rebuilder = rebuilder'; table = table'' }) (define c text) (Ok tt)
    places u rebuilder' table' table'' asks h forgotten marks cell q z changed =
        let d = accepted_answer (placing l.stands text) u h in
        define_new v.blank l.stands r.depth same (shown v s l r now) c n text d.0 (shown v s l r (record { store = now.store; language = language'; rebuilder = rebuilder'; table = table'' })) (sym k) d.1 (λ j. refl)
        (λ o. renewed_by _ _ _ _ _ _ _ _ (record_in now.table) (record_in table') c (marks o) (record_in table'') (record { defined = true; cause = Some cell; asked = asks }) changed
        (some d.0) (some c) refl (ap some q) z (λ j. refl) (λ j. means j ∙ ap (λ y. after_placing y c (l.means now.language) j) d.1) (forgot (plain_trace v.canon) c _ _ forgotten))

  -- a clearing of an input
  pub clears_input : row.defined ≡ false → Rightly v s l r now now (clear c) (Err (refusedWith 4))
  clears_input m = clear_input v.blank l.stands r.depth same (shown v s l r now) c n (marked_is false m)

  -- no past leaves a defined cell locked
  pub clears_locked : (e : Said) (a : Result (Unit {0}) Said) (store' : S) → row.defined ≡ true → ◌≡◌ {A = Result (Unit {0}) Said} (Err e) (cond (s.locked now.store c) (Err (refusedWith 3)) (Ok tt))
      → Rightly v s l r now (record { store = store'; language = now.language; rebuilder = now.rebuilder; table = now.table }) (clear c) a
  clears_locked e a store' m h = clear_of_locked v.blank l.stands r.depth same (shown v s l r now) c n a (shown v s l r (record { store = store'; language = now.language; rebuilder = now.rebuilder; table = now.table })) (marked_is true m) (refused_locked (s.locked now.store c) e h).0

  -- a clearing of a defined cell
  pub clears : (u : Unit {0}) (store' : S) (language' : L) (rebuilder' : R) (table' table'' : Table) (blank : V) (row' : Record) → row.defined ≡ true
      → ◌≡◌ {A = Result (Unit {0}) Said} (Ok u) (cond (s.locked now.store c) (Err (refusedWith 3)) (Ok tt)) → v.canon blank ≡ v.blank
      → ((j : ℕ) → v.canon (s.shows store' j) ≡ cond (s.locked now.store c) (v.canon (s.shows now.store j)) (but c (v.canon blank) (λ i. v.canon (s.shows now.store i)) j))
      → ((j : ℕ) → s.locked store' j ≡ s.locked now.store j)
      → ((j : ℕ) → l.means language' j ≡ but c nothing (l.means now.language) j)
      → ((j : ℕ) → r.traces rebuilder' j ≡ but c [] (r.traces now.rebuilder) j)
      → (Grounded (marked_in (record_in now.table)) (cause_in (record_in now.table)) (asked_in (record_in now.table)) → Marks c (record_in now.table) (record_in table'))
      → row'.defined ≡ false → row'.cause ≡ None → asked_cells row'.asked ≡ []
      → ((j : ℕ) → record_in table'' j ≡ but c row' (record_in table') j)
      → Rightly v s l r now (record { store = store'; language = language'; rebuilder = rebuilder'; table = table'' }) (clear c) (Ok tt)
  clears u store' language' rebuilder' table' table'' blank row' m h b values locks means forgotten marks d o z changed =
      clear_new v.blank l.stands r.depth same (shown v s l r now) c n (shown v s l r (record { store = store'; language = language'; rebuilder = rebuilder'; table = table'' })) (marked_is true m)
      (λ j. values j ∙ cond-false _ _ _ (accepted_open (s.locked now.store c) u h) ∙ ap (λ y. but c y (λ i. v.canon (s.shows now.store i)) j) b)
      (λ q. renewed_by _ _ _ _ _ _ _ _ (record_in now.table) (record_in table') c (marks q) (record_in table'') row' changed
      nothing nothing d (ap number_in o) z locks means (forgot (plain_trace v.canon) c _ _ forgotten))

-- bytes, as they were read
pub written_as : {V : Type 0} (canon : V → V) (written : V → List ℕ) (unread : ℕ) (bytes : List ℕ) (P : Result V Said → Type 0) (r : Result V Refusal)
    → MatchResult r (λ v. written v ≡ bytes) (λ e. (said e ≡ refusedWith unread) × ((v : V) → written v ≡ bytes → ⊥)) → P (given_of canon r) → ReadAs canon written unread bytes P
written_as canon written unread bytes P (Ok v) h a = value v h a
written_as canon written unread bytes P (Err e) h a = none h.1 (subst (λ z. P (Err z)) h.0 a)
