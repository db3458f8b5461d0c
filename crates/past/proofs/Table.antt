-- The table of refusals: a request is acceptable, or it has one refusal, and which it is can be told.
use Rattle.std.proofs.Common.{◌≡◌, ℕ, ◌<◌, Bool, true, false, ◌⊎◌, List, length, Ok, Err, Result, sym, refl, ap, ◌∙◌, subst, inl, inr, arith}
use mathlib.Core.Option.{Option, none, some}
use native.Mathlib.Decide.{ℕ_discrete, dec_lt}
use Rattle.std.proofs.lemmas.Bool.{both_ways, lt-ltb, le-ltb, le-leb, lt-leb}
use Rattle.interfaces.specs.Cells.{cell_count, text_limit, work_length}
use Rattle.interfaces.specs.Refusals.{Said, no_at, no as refusal}
use Rattle.interfaces.specs.Tasks.{Def, Verdict, legal, illegal, placing, judged}
use Rattle.past.specs.Past.{Lent, Request, edit, define, clear, query, Past, defs}
use Rattle.past.specs.Law.{Concerns, lent_little, has_definition, locked_edit, locked_define, bad_length, not_in_language, no_definition, no_value, Refusable, Acceptable}
use Rattle.past.specs.Theorems.{Placed}
use Rattle.past.proofs.Lists.{no_some}

module _ {M : Type 0} (locks : ℕ → Bool) (stands : List ℕ → Verdict M) (p : Past M) where
  -- an edit that may be accepted is of an input
  pub edit_free : (c : ℕ) (given : Result M Said) → Acceptable locks stands p (edit c given) → defs p c ≡ none
  unfolding Acceptable
  edit_free c given a = go (defs p c) refl
    where
      go : (z : Option (Def M)) → defs p c ≡ z → defs p c ≡ none
      go none e = e
      go (some d) e = absurd (a _ _ (has_definition e))

  -- a row says one thing of a request
  one_said : {q : Request M} {row row' : ℕ} {said said' : Said} → row ≡ row'
      → Concerns locks stands p q row said → Concerns locks stands p q row' said' → said ≡ said'
  one_said e (lent_little _) (lent_little _) = refl
  one_said e (has_definition _) (has_definition _) = refl
  one_said e (has_definition _) (locked_edit _) = absurd (omega arith)
  one_said e (has_definition _) no_value = absurd (omega arith)
  one_said e (locked_edit _) (has_definition _) = absurd (omega arith)
  one_said e (locked_edit _) (locked_edit _) = refl
  one_said e (locked_edit _) no_value = absurd (omega arith)
  one_said e no_value (has_definition _) = absurd (omega arith)
  one_said e no_value (locked_edit _) = absurd (omega arith)
  one_said e no_value no_value = refl
  one_said e (locked_define _) (locked_define _) = refl
  one_said e (locked_define _) (bad_length _) = absurd (omega arith)
  one_said e (locked_define _) (not_in_language _) = absurd (omega arith)
  one_said e (bad_length _) (locked_define _) = absurd (omega arith)
  one_said e (bad_length _) (bad_length _) = refl
  one_said e (bad_length _) (not_in_language _) = absurd (omega arith)
  one_said e (not_in_language _) (locked_define _) = absurd (omega arith)
  one_said e (not_in_language _) (bad_length _) = absurd (omega arith)
  one_said e (not_in_language s) (not_in_language s') = cc
  one_said e (no_definition _) (no_definition _) = refl

  -- a request has one refusal
  pub one_refusal : {q : Request M} {said said' : Said} → Refusable locks stands p q said → Refusable locks stands p q said' → said ≡ said'
  one_refusal {q} {said} {said'} r r' = go (dec_lt r.row r'.row) (dec_lt r'.row r.row)
    where
      go : Dec (r.row < r'.row) → Dec (r'.row < r.row) → said ≡ said'
      go (yes h) _ = absurd (r'.earliest r.row said h r.concerns)
      go (no _) (yes h) = absurd (r.earliest r'.row said' h r'.concerns)
      go (no n) (no m) = one_said (omega arith) r.concerns r'.concerns

  -- and is not acceptable then
  pub refusal_acceptance : {q : Request M} {said : Said} → Refusable locks stands p q said → Acceptable locks stands p q → ⊥
  unfolding Acceptable
  refusal_acceptance {q} {said} r a = a r.row said r.concerns

  -- queries
  pub query_refused : (c : ℕ) (lent : Lent) → (lent.report < cell_count) ⊎ ((lent.chain < cell_count) ⊎ (lent.work < work_length)) → Refusable locks stands p (query c lent) (refusal 1)
  query_refused c lent h = record { row = 0; concerns = lent_little h; earliest = λ e s k. absurd (omega arith) }

  pub query_fine : (c : ℕ) (lent : Lent) → ¬ (lent.report < cell_count) → ¬ (lent.chain < cell_count) → ¬ (lent.work < work_length) → Acceptable locks stands p (query c lent)
  unfolding Acceptable
  query_fine c lent n m k row said w = go lent n m k row said w
    where
      go : (lent : Lent) → ¬ (lent.report < cell_count) → ¬ (lent.chain < cell_count) → ¬ (lent.work < work_length) → (row : ℕ) (said : Said) → ¬ Concerns locks stands p (query c lent) row said
      go lent n m k row said (lent_little (inl h)) = n h
      go lent n m k row said (lent_little (inr (inl h))) = m h
      go lent n m k row said (lent_little (inr (inr h))) = k h

  -- clearings
  pub clear_refused : (c : ℕ) → defs p c ≡ none → Refusable locks stands p (clear c) (refusal 4)
  clear_refused c e = record { row = 5; concerns = no_definition e; earliest = early c }
    where
      early : (c : ℕ) (row : ℕ) (said : Said) → row < 5 → ¬ Concerns locks stands p (clear c) row said
      early c row said h (no_definition _) = absurd (omega arith)

  pub clear_fine : (c : ℕ) {d : Def M} → defs p c ≡ some d → Acceptable locks stands p (clear c)
  unfolding Acceptable
  clear_fine c {d} e row said w = go c e row said w
    where
      go : (c : ℕ) → defs p c ≡ some d → (row : ℕ) (said : Said) → ¬ Concerns locks stands p (clear c) row said
      go c e row said (no_definition e') = no_some (sym e' ∙ e)

  -- edits
  pub edit_refused : (c : ℕ) (given : Result M Said) {d : Def M} → defs p c ≡ some d → Refusable locks stands p (edit c given) (refusal 2)
  edit_refused c given e = record { row = 1; concerns = has_definition e; earliest = early given }
    where
      early : (g : Result M Said) (row : ℕ) (said : Said) → row < 1 → ¬ Concerns locks stands p (edit c g) row said
      early g row said h (has_definition _) = absurd (omega arith)
      early g row said h (locked_edit _) = absurd (omega arith)
      early g row said h no_value = absurd (omega arith)

  pub edit_locked : (c : ℕ) (given : Result M Said) → defs p c ≡ none → locks c ≡ true → Refusable locks stands p (edit c given) (refusal 3)
  edit_locked c given e l = record { row = 2; concerns = locked_edit l; earliest = early given }
    where
      early : (g : Result M Said) (row : ℕ) (said : Said) → row < 2 → ¬ Concerns locks stands p (edit c g) row said
      early g row said h (has_definition s) = no_some (sym e ∙ s)
      early g row said h (locked_edit _) = absurd (omega arith)
      early g row said h no_value = absurd (omega arith)

  pub edit_unread : (c : ℕ) (why : Said) → defs p c ≡ none → locks c ≡ false → Refusable locks stands p (edit c (Err why)) why
  edit_unread c why e l = record { row = 6; concerns = no_value; earliest = early (Err why) }
    where
      early : (g : Result M Said) (row : ℕ) (said : Said) → row < 6 → ¬ Concerns locks stands p (edit c g) row said
      early g row said h (has_definition s) = no_some (sym e ∙ s)
      early g row said h (locked_edit u) = both_ways (locks c) l u
      early g row said h no_value = absurd (omega arith)

  pub edit_fine : (c : ℕ) (v : M) → defs p c ≡ none → locks c ≡ false → Acceptable locks stands p (edit c (Ok v))
  unfolding Acceptable
  edit_fine c v e l row said w = go c v e l row said w
    where
      go : (c : ℕ) (v : M) → defs p c ≡ none → locks c ≡ false → (row : ℕ) (said : Said) → ¬ Concerns locks stands p (edit c (Ok v)) row said
      go c v e l row said (has_definition s) = no_some (sym e ∙ s)
      go c v e l row said (locked_edit u) = both_ways (locks c) l u

  -- definitions
  pub define_locked : (c : ℕ) (text : List ℕ) → locks c ≡ true → Refusable locks stands p (define c text) (refusal 3)
  define_locked c text l = record { row = 2; concerns = locked_define l; earliest = early text }
    where
      early : (text : List ℕ) (row : ℕ) (said : Said) → row < 2 → ¬ Concerns locks stands p (define c text) row said
      early text row said h (locked_define _) = absurd (omega arith)
      early text row said h (bad_length _) = absurd (omega arith)
      early text row said h (not_in_language _) = absurd (omega arith)

  module _ (c : ℕ) (text : List ℕ) (l : locks c ≡ false) where
    pub define_length : (length text ≡ 0) ⊎ (text_limit < length text) → Refusable locks stands p (define c text) (refusal 5)
    define_length n = record { row = 3; concerns = bad_length n; earliest = early text }
      where
        early : (text : List ℕ) (row : ℕ) (said : Said) → row < 3 → ¬ Concerns locks stands p (define c text) row said
        early text row said h (locked_define u) = both_ways (locks c) l u
        early text row said h (bad_length _) = absurd (omega arith)
        early text row said h (not_in_language _) = absurd (omega arith)

    pub define_illegal : (place : ℕ) → ¬ (length text ≡ 0) → ¬ (text_limit < length text) → stands text ≡ illegal place → Refusable locks stands p (define c text) (no_at 6 place)
    define_illegal place n m s = record { row = 4; concerns = not_in_language s; earliest = early text n m }
      where
        early : (text : List ℕ) → ¬ (length text ≡ 0) → ¬ (text_limit < length text) → (row : ℕ) (said : Said) → row < 4 → ¬ Concerns locks stands p (define c text) row said
        early text n m row said h (locked_define u) = both_ways (locks c) l u
        early text n m row said h (bad_length (inl e)) = n e
        early text n m row said h (bad_length (inr e)) = m e
        early text n m row said h (not_in_language _) = absurd (omega arith)

    pub define_fine : {d : Def M} → ¬ (length text ≡ 0) → ¬ (text_limit < length text) → stands text ≡ legal d → Acceptable locks stands p (define c text)
    unfolding Acceptable
    define_fine {d} n m s row said w = go text n m s row said w
      where
        go : (text : List ℕ) → ¬ (length text ≡ 0) → ¬ (text_limit < length text) → stands text ≡ legal d → (row : ℕ) (said : Said) → ¬ Concerns locks stands p (define c text) row said
        go text n m s row said (locked_define u) = both_ways (locks c) l u
        go text n m s row said (bad_length (inl e)) = n e
        go text n m s row said (bad_length (inr e)) = m e
        go text n m s row said (not_in_language u) = let z : ◌≡◌ {A = ℕ} 0 1 = cc in omega arith

  -- what a text comes to at a cell that is not locked, by the table and by placing it
  data Weighed (c : ℕ) (text : List ℕ) : Type 0 where
    taken : {d : Def M} → placing stands text ≡ Ok d → stands text ≡ legal d → Acceptable locks stands p (define c text) → Weighed c text
    turned : {said : Said} → placing stands text ≡ Err said → Refusable locks stands p (define c text) said → Weighed c text

  module _ (c : ℕ) (text : List ℕ) (l : locks c ≡ false) where
    weigh : Weighed c text
    weigh = go (ℕ_discrete (length text) 0) (dec_lt text_limit (length text))
      where
        fit : ¬ (length text ≡ 0) → ¬ (text_limit < length text) → placing stands text ≡ judged (stands text)
        fit n m = rw (lt-ltb 0 (length text) (omega arith), le-leb (length text) text_limit (omega arith)) refl

        look : ¬ (length text ≡ 0) → ¬ (text_limit < length text) → (z : Verdict M) → stands text ≡ z → Weighed c text
        look n m (legal d) s = taken (fit n m ∙ ap judged s) s (define_fine c text l n m s)
        look n m (illegal place) s = turned (fit n m ∙ ap judged s) (define_illegal c text l place n m s)

        go : Dec (length text ≡ 0) → Dec (text_limit < length text) → Weighed c text
        go (yes e) _ = turned (rw (le-ltb 0 (length text) (omega arith)) refl) (define_length c text l (inl e))
        go (no n) (yes e) = turned (rw (lt-ltb 0 (length text) (omega arith), lt-leb (length text) text_limit (omega arith)) refl) (define_length c text l (inr e))
        go (no n) (no m) = look n m (stands text) refl

    -- placing agrees with the table
    pub placed : Placed locks stands p c text
    placed = go weigh
      where
        go : Weighed c text → Placed locks stands p c text
        go (taken {d = d'} e s a) = record {
          accepts = λ d e'. (a, cc);
          refuses = λ said e'. let z : ◌≡◌ {A = ℕ} 0 1 = cc in absurd (omega arith);
          accepted = λ d a' s'. cc;
          refused = λ said r. absurd (refusal_acceptance r a);
        }
        go (turned e r) = record {
          accepts = λ d e'. let z : ◌≡◌ {A = ℕ} 0 1 = cc in absurd (omega arith);
          refuses = λ said e'. subst (λ z. Refusable locks stands p (define c text) z) (cc) r;
          accepted = λ d a' s'. absurd (refusal_acceptance r a');
          refused = λ said r'. e ∙ ap Err (one_refusal r r');
        }

  -- what a request comes to by the table
  pub data Judged (q : Request M) : Type 0 where
    refusable : {said : Said} → Refusable locks stands p q said → Judged q
    acceptable : Acceptable locks stands p q → Judged q

  pub judge : (q : Request M) → Judged q
  judge (edit c given) = go (defs p c) refl (locks c) refl given
    where
      go : (z : Option (Def M)) → defs p c ≡ z → (b : Bool) → locks c ≡ b → (g : Result M Said) → Judged (edit c g)
      go (some d) e b l g = refusable (edit_refused c g e)
      go none e true l g = refusable (edit_locked c g e l)
      go none e false l (Err why) = refusable (edit_unread c why e l)
      go none e false l (Ok v) = acceptable (edit_fine c v e l)
  judge (define c text) = go (locks c) refl
    where
      look : Weighed c text → Judged (define c text)
      look (taken _ _ a) = acceptable a
      look (turned _ r) = refusable r

      go : (b : Bool) → locks c ≡ b → Judged (define c text)
      go true l = refusable (define_locked c text l)
      go false l = look (weigh c text l)
  judge (clear c) = go (defs p c) refl
    where
      go : (z : Option (Def M)) → defs p c ≡ z → Judged (clear c)
      go none e = refusable (clear_refused c e)
      go (some d) e = acceptable (clear_fine c e)
  judge (query c lent) = go (dec_lt lent.report cell_count) (dec_lt lent.chain cell_count) (dec_lt lent.work work_length)
    where
      go : Dec (lent.report < cell_count) → Dec (lent.chain < cell_count) → Dec (lent.work < work_length) → Judged (query c lent)
      go (yes h) _ _ = refusable (query_refused c lent (inl h))
      go (no _) (yes h) _ = refusable (query_refused c lent (inr (inl h)))
      go (no _) (no _) (yes h) = refusable (query_refused c lent (inr (inr h)))
      go (no n) (no m) (no k) = acceptable (query_fine c lent n m k)
