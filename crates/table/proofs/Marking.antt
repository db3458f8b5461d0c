-- The turns of all cells make a marking. Assumes nothing.
use Rattle.std.proofs.Common.{◌≡◌, ℕ, zero, suc, ◌+◌, ◌<◌, ◌≤◌, Bool, true, false, List, ◌∷◌, map, length, get_or, replicate, Some, None, Option as Maybe, sym, refl, ap, ◌∙◌, subst, arith}
use mathlib.Core.Path.{fun_ext}
use mathlib.Core.Option.{none}
use native.Mathlib.Decide.{ℕ_discrete, dec_lt}
use Rattle.std.specs.Option.{option_map}
use Rattle.std.proofs.lemmas.Bool.{eq-eqb, ne_eqb, lt-ltb}
use Rattle.std.specs.List.{filter_map, range_with_len}
use Rattle.std.proofs.lemmas.List.{get_or_past}
use Rattle.std.proofs.lemmas.List.FromFn.{length-map-range_with_len, get_or-map-range_with_len}
use Rattle.interfaces.specs.declared.cell.Cell.{Cell}
use Rattle.interfaces.specs.Cells.{cell_count, cell_numbered, number_of, but}
use Rattle.interfaces.proofs.Tables.{everywhere}
use Rattle.table.specs.declared.Record.{Record}
use Rattle.table.specs.Records.{number_in, calm_by, calm_record, marked_in, cause_in, asked_in}
use Rattle.table.specs.Marks.{Leads, Grounded, Doubts, falls, stays, Marks}
use Rattle.table.specs.Walks.{Knows, Visits, doubted, Turns, passes, misses, hits}

pub but_here : {A : Type 0} (c : ℕ) (a : A) (f : ℕ → A) (k : ℕ) → k ≡ c → but c a f k ≡ a
but_here c a f k e = rw (eq-eqb k c e) refl

pub but_away : {A : Type 0} (c : ℕ) (a : A) (f : ℕ → A) (k : ℕ) → ¬ (k ≡ c) → but c a f k ≡ f k
but_away c a f k n = rw (ne_eqb k c n) refl

-- what holds of the element and of the default holds at every place of a list of one element
pub everywhere_so : {A : Type 0} (P : A → Type 0) (n k : ℕ) (a d : A) → P a → P d → P (get_or (replicate n a) k d)
everywhere_so P zero k a d h h' = h'
everywhere_so P (suc n) zero a d h h' = h
everywhere_so P (suc n) (suc k) a d h h' = everywhere_so P n k a d h h'

calm_true : (o : Maybe Cell) (b : Bool) → calm_by o b ≡ true → (b ≡ true) × (number_in o ≡ none)
calm_true None b e = (e, refl)
calm_true (Some c) b e = cc

calm_false : (o : Maybe Cell) (b : Bool) → calm_by o b ≡ false → b ≡ true → number_in o ≡ none → ⊥
calm_false None b e h n = cc
calm_false (Some c) b e h n = cc

-- how far a marking has come: the cells below `i` have had their turn
pub record Sofar (c : Cell) (i : ℕ) (before after : ℕ → Record) (known : List (Maybe Bool)) : Type 0 where
  pub knows : Knows (asked_in before) (number_of c) known
  pub done : (k : ℕ) → k < i → Doubts (number_of c) (marked_in before) (cause_in before) (cause_in after) (asked_in before) k
  pub todo : (k : ℕ) → i ≤ k → after k ≡ before k
  pub same_marks : (k : ℕ) → marked_in after k ≡ marked_in before k
  pub same_asked : (k : ℕ) → asked_in after k ≡ asked_in before k

pub knows_none : (asked : ℕ → List ℕ) (c n : ℕ) → Knows asked c (replicate n None)
knows_none asked c n k b e = let q : get_or {A = Maybe Bool} (replicate n None) k None ≡ None = everywhere n k None in cc

pub begins : (c : Cell) (before : ℕ → Record) (n : ℕ) → Sofar c 0 before before (replicate n None)
begins c before n = record { knows = knows_none (asked_in before) (number_of c) n; done = λ k h. absurd (omega arith); todo = λ k h. refl; same_marks = λ k. refl; same_asked = λ k. refl }

module _ (c : Cell) (i : ℕ) (before now after : ℕ → Record) (known known' : List (Maybe Bool))
    (grounded : Grounded (marked_in before) (cause_in before) (asked_in before)) (s : Sofar c i before now known) where
  asked_is : asked_in now ≡ asked_in before
  asked_is = fun_ext s.same_asked

  here : now i ≡ before i
  here = s.todo i (omega arith)

  visited : (b : Bool) → Visits (asked_in now) (number_of c) (suc cell_count) i known known' b → Visits (asked_in before) (number_of c) (suc cell_count) i known known' b
  visited b v = subst (λ a. Visits a (number_of c) (suc cell_count) i known known' b) asked_is v

  calm_here : calm_record (now i) ≡ true → (marked_in before i ≡ true) × (cause_in before i ≡ none)
  calm_here e = calm_true (before i).cause (before i).defined (ap calm_record (sym here) ∙ e)

  -- a cell that had its turn before keeps what it has
  kept : (k : ℕ) → k < i → after k ≡ now k → Doubts (number_of c) (marked_in before) (cause_in before) (cause_in after) (asked_in before) k
  kept k h e = go (s.done k h)
    where
      go : Doubts (number_of c) (marked_in before) (cause_in before) (cause_in now) (asked_in before) k → Doubts (number_of c) (marked_in before) (cause_in before) (cause_in after) (asked_in before) k
      go (falls m n l q) = falls m n l (ap (λ r. number_in r.cause) e ∙ q)
      go (stays n q) = stays n (ap (λ r. number_in r.cause) e ∙ q)

  turned : Knows (asked_in before) (number_of c) known' → ((k : ℕ) → ¬ (k ≡ i) → after k ≡ now k) → marked_in after i ≡ marked_in before i → asked_in after i ≡ asked_in before i
      → Doubts (number_of c) (marked_in before) (cause_in before) (cause_in after) (asked_in before) i → Sofar c (i + 1) before after known'
  turned k e m a d = record {
    knows = k;
    done = λ j h. done' j h (ℕ_discrete j i);
    todo = λ j h. e j (omega arith) ∙ s.todo j (omega arith);
    same_marks = λ j. marks' j (ℕ_discrete j i);
    same_asked = λ j. asked' j (ℕ_discrete j i);
  }
    where
      done' : (j : ℕ) → j < i + 1 → Dec (j ≡ i) → Doubts (number_of c) (marked_in before) (cause_in before) (cause_in after) (asked_in before) j
      done' j h (yes q) = subst (λ z. Doubts (number_of c) (marked_in before) (cause_in before) (cause_in after) (asked_in before) z) (sym q) d
      done' j h (no n) = kept j (omega arith) (e j n)

      marks' : (j : ℕ) → Dec (j ≡ i) → marked_in after j ≡ marked_in before j
      marks' j (yes q) = subst (λ z. marked_in after z ≡ marked_in before z) (sym q) m
      marks' j (no n) = ap (λ r. r.defined) (e j n) ∙ s.same_marks j

      asked' : (j : ℕ) → Dec (j ≡ i) → asked_in after j ≡ asked_in before j
      asked' j (yes q) = subst (λ z. asked_in after z ≡ asked_in before z) (sym q) a
      asked' j (no n) = ap (λ r. asked_in (λ _. r) 0) (e j n) ∙ s.same_asked j

  same_turn : ((k : ℕ) → after k ≡ now k) → Knows (asked_in before) (number_of c) known' → (marked_in before i ≡ true → cause_in before i ≡ none → ¬ Leads (asked_in before) (number_of c) i)
      → Sofar c (i + 1) before after known'
  same_turn e k n = turned k (λ j _. e j) (ap (λ r. r.defined) (e i ∙ here)) (ap (λ r. asked_in (λ _. r) 0) (e i ∙ here)) (stays n (ap (λ r. number_in r.cause) (e i ∙ here)))

  pub one_turn : Turns c i now after known known' → Sofar c (i + 1) before after known'
  one_turn (passes f e q) = same_turn e (subst (λ z. Knows (asked_in before) (number_of c) z) (sym q) s.knows) (λ m n l. calm_false (before i).cause (before i).defined (ap calm_record (sym here) ∙ f) m n)
  one_turn (misses t e v) = let h = calm_here t in let w = visited false v (grounded i h.0 h.1) s.knows in same_turn e w.0 (λ _ _ l. w.1 l)
  one_turn (hits t e v) =
      let h = calm_here t in
      let w = visited true v (grounded i h.0 h.1) s.knows in
      let r : after i ≡ doubted c (now i) = e i ∙ but_here i (doubted c (now i)) now i refl in
      turned w.0 (λ j n. e j ∙ but_away i (doubted c (now i)) now j n) (ap (λ z. z.defined) r ∙ ap (λ z. z.defined) here) (ap (λ z. asked_in (λ _. z) 0) r ∙ ap (λ z. asked_in (λ _. z) 0) here)
      (falls h.0 h.1 w.1 (ap (λ z. number_in z.cause) r))

-- after the last turn
pub all_turned : (c : Cell) (i : ℕ) (rows : List Record) (d : Record) (after : ℕ → Record) (known : List (Maybe Bool)) → length rows ≤ i → d.defined ≡ false
    → Sofar c i (λ k. get_or rows k d) after known → Marks (number_of c) (λ k. get_or rows k d) after
all_turned c i rows d after known h f s = record { same_marks = s.same_marks; same_asked = s.same_asked; doubts = λ k. go k (dec_lt k i) }
  where
    go : (k : ℕ) → Dec (k < i) → Doubts (number_of c) (marked_in (λ k. get_or rows k d)) (cause_in (λ k. get_or rows k d)) (cause_in after) (asked_in (λ k. get_or rows k d)) k
    go k (yes l) = s.done k l
    go k (no n) = stays (λ m _ _. let q : get_or rows k d ≡ d = get_or_past rows k d (omega arith) in let m' : d.defined ≡ true = ap (λ r. r.defined) (sym q) ∙ m in cc)
        (ap (λ r. number_in r.cause) (s.todo k (omega arith)))

abbrev cell_of : ℕ → Cell
cell_of n = record { 0 = n }

-- the cell of a number, if there is one
pub cell_made : ℕ → Maybe Cell
cell_made n = option_map cell_of (cell_numbered n)

pub made : (o : Maybe Cell) (n : ℕ) → option_map number_of o ≡ cell_numbered n → o ≡ cell_made n
unfolding cell_made
made None n e = ap (option_map cell_of) e
made (Some c) n e = ap (option_map cell_of) e

-- the cells of all numbers leave none out, and stand in the order of their numbers
made_from : (a n : ℕ) → a + n ≤ cell_count → filter_map cell_made (range_with_len a n) ≡ map cell_of (range_with_len a n)
unfolding cell_made
made_from a zero h = refl
made_from a (suc n) h = rw (lt-ltb a cell_count (omega (arith, h))) (ap (λ z. cell_of a ∷ z) (made_from (a + 1) n (omega (arith, h))))

pub length-made : (n : ℕ) → n ≤ cell_count → length (filter_map cell_made (range_with_len 0 n)) ≡ n
length-made n h = ap length (made_from 0 n (omega (arith, h))) ∙ length-map-range_with_len cell_of 0 n

pub number_at : (n k : ℕ) (c : Cell) → n ≤ cell_count → k < length (filter_map cell_made (range_with_len 0 n)) → c ≡ get_or (filter_map cell_made (range_with_len 0 n)) k c → number_of c ≡ k
number_at n k c m h e = ap number_of (e ∙ ap (λ z. get_or z k c) (made_from 0 n (omega (arith, m))) ∙ get_or-map-range_with_len cell_of 0 n k k c (rw (length-made n m) at h) (omega arith))
