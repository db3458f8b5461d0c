-- Where a text goes wrong: every state of the reader can be led to an end, so the byte that it refuses is the first
-- that no formula has.
use Rattle.std.proofs.Common.{◌≡◌, ℕ, suc, ◌+◌, ◌-◌, ◌<◌, eqb, List, [], ◌∷◌, ◌++◌, length, take, sym, refl, ap, ◌∙◌, ⊎_elim, append_assoc, arith}
use mathlib.Core.Option.{Option, none, some}
use lib.Seq.{take-append-add}
use Rattle.std.proofs.lemmas.Bool.{cases_order, cond-true, eq-eqb}
use Rattle.std.proofs.lemmas.List.{length-append, take_at}
use Rattle.interfaces.specs.Cells.{cell_count}
use Rattle.interfaces.specs.Tasks.{Def, legal, illegal}
use Rattle.whole.specs.declared.Whole.{Whole}
use Rattle.definitions.specs.Longest.{Longest, Begins}
use Rattle.formula.specs.Grammar.{Tree, number, cell, negated, joined, choice, lookup, total, Formula, Legal, OneReading}
use Rattle.formula.specs.Meaning.{meaning}
use Rattle.formula.specs.Reader.{Around, whole, in_group, in_first, in_second, in_third, in_lookup, AtTerm, first_term, after_sum, AtFactor, first_factor, after_product, behind_minus, Held, Use, as_factor, as_first, State, want, have, want_name, want_row, in_row, due, want_count, inside, closed, around, hand, shut, named, cell_at, step, finish, end, ended, onward, Reading, reads, fails, run, reading, verdict_of, Right, StandsRight}
use Rattle.formula.proofs.Runs.{run_step, run_stop, run_end, NoDigit, number_ends, row_ends, count_good, whole_reads}
use Rattle.formula.proofs.Sound.{Before, at_want, at_have, at_number, at_name, at_row, at_digit, at_due, at_count, at_first_factor, at_first_term, at_whole, Good, step_good, run_sound}

-- a state can be led to an end
record Ends (at : ℕ) (st : State) : Type 0 where
  rest : List ℕ
  plain : NoDigit rest
  tree : Tree
  ends : run at st rest ≡ reads tree

mutual
  around_ends : (k : Around) (h : Held) → around h.wait ≡ k → (at : ℕ) → Ends at (have h)
  around_ends whole h e at = record {
    rest = [];
    plain = tt;
    tree = closed h.tree h.wait;
    ends = run_end at (have h) ∙ ap (λ k. ended at (finish (closed h.tree h.wait) k)) e;
  }
  around_ends (in_group w) h e at =
      let f = factor_ends w (closed h.tree h.wait) (at + 1) in
      record {
        rest = 41 ∷ f.rest;
        plain = refl;
        tree = f.tree;
        ends = run_step at (have h) 41 f.rest (have (hand (closed h.tree h.wait) w)) (ap (λ k. shut (closed h.tree h.wait) k 41) e) ∙ f.ends;
      }
  around_ends (in_first w) h e at =
      let t = closed h.tree h.wait in
      let f = factor_ends w (choice t (number 0) (number 0)) (at + 1 + 1 + 1 + 1 + 1) in
      record {
        rest = 44 ∷ 48 ∷ 44 ∷ 48 ∷ 41 ∷ f.rest;
        plain = refl;
        tree = f.tree;
        ends = run_step at (have h) 44 (48 ∷ 44 ∷ 48 ∷ 41 ∷ f.rest) (inside (in_second t w)) (ap (λ k. shut t k 44) e)
            ∙ (run_step (at + 1) (inside (in_second t w)) 48 (44 ∷ 48 ∷ 41 ∷ f.rest) (have (record { tree = number 0; wait = first_term (in_second t w) })) refl
            ∙ (run_step (at + 1 + 1) (have (record { tree = number 0; wait = first_term (in_second t w) })) 44 (48 ∷ 41 ∷ f.rest) (inside (in_third t (number 0) w)) refl
            ∙ (run_step (at + 1 + 1 + 1) (inside (in_third t (number 0) w)) 48 (41 ∷ f.rest) (have (record { tree = number 0; wait = first_term (in_third t (number 0) w) })) refl
            ∙ (run_step (at + 1 + 1 + 1 + 1) (have (record { tree = number 0; wait = first_term (in_third t (number 0) w) })) 41 f.rest (have (hand (choice t (number 0) (number 0)) w)) refl
            ∙ f.ends))));
      }
  around_ends (in_second u w) h e at =
      let t = closed h.tree h.wait in
      let f = factor_ends w (choice u t (number 0)) (at + 1 + 1 + 1) in
      record {
        rest = 44 ∷ 48 ∷ 41 ∷ f.rest;
        plain = refl;
        tree = f.tree;
        ends = run_step at (have h) 44 (48 ∷ 41 ∷ f.rest) (inside (in_third u t w)) (ap (λ k. shut t k 44) e)
            ∙ (run_step (at + 1) (inside (in_third u t w)) 48 (41 ∷ f.rest) (have (record { tree = number 0; wait = first_term (in_third u t w) })) refl
            ∙ (run_step (at + 1 + 1) (have (record { tree = number 0; wait = first_term (in_third u t w) })) 41 f.rest (have (hand (choice u t (number 0)) w)) refl
            ∙ f.ends));
      }
  around_ends (in_third u v w) h e at =
      let t = closed h.tree h.wait in
      let f = factor_ends w (choice u v t) (at + 1) in
      record {
        rest = 41 ∷ f.rest;
        plain = refl;
        tree = f.tree;
        ends = run_step at (have h) 41 f.rest (have (hand (choice u v t) w)) (ap (λ k. shut t k 41) e) ∙ f.ends;
      }
  around_ends (in_lookup m w) h e at =
      let t = closed h.tree h.wait in
      let f = factor_ends w (lookup m t) (at + 1) in
      record {
        rest = 41 ∷ f.rest;
        plain = refl;
        tree = f.tree;
        ends = run_step at (have h) 41 f.rest (have (hand (lookup m t) w)) (ap (λ k. shut t k 41) e) ∙ f.ends;
      }

  term_ends : (w : AtTerm) (t : Tree) (at : ℕ) → Ends at (have (record { tree = t; wait = w }))
  term_ends (first_term k) t at = around_ends k (record { tree = t; wait = first_term k }) refl at
  term_ends (after_sum left o m k) t at = around_ends k (record { tree = t; wait = after_sum left o m k }) refl at

  factor_ends : (w : AtFactor) (t : Tree) (at : ℕ) → Ends at (have (hand t w))
  factor_ends (first_factor w) t at = term_ends w t at
  factor_ends (after_product left o m w) t at = term_ends w (joined o m left t) at
  factor_ends (behind_minus w) t at = factor_ends w (negated t) at

named_ends : (u : Use) (c : ℕ) (at : ℕ) → c < cell_count → Ends at (named u c)
named_ends (as_factor w) c at l = factor_ends w (cell c) at
named_ends (as_first m w) c at l =
    let f = factor_ends w (total m c 1) (at + 1 + 1 + 1) in
    record {
      rest = 44 ∷ 49 ∷ 41 ∷ f.rest;
      plain = refl;
      tree = f.tree;
      ends = run_step at (due 44 [] (want_count m c w)) 44 (49 ∷ 41 ∷ f.rest) (want_count m c w) refl
          ∙ (run_step (at + 1) (want_count m c w) 49 (41 ∷ f.rest) (due 41 [] (have (hand (total m c 1) w))) (count_good m c 1 w (omega arith) (omega arith) (omega arith))
          ∙ (run_step (at + 1 + 1) (due 41 [] (have (hand (total m c 1) w))) 41 f.rest (have (hand (total m c 1) w)) refl
          ∙ f.ends));
    }

-- bytes that lead a state to an end
record Leads (at : ℕ) (st : State) : Type 0 where
  rest : List ℕ
  tree : Tree
  leads : run at st rest ≡ reads tree

row_leads : (c r : ℕ) (u : Use) (at : ℕ) → cell_at c r < cell_count → Leads at (in_row c r u)
row_leads c r u at l =
    let f = named_ends u (cell_at c r) at l in
    record { rest = f.rest; tree = f.tree; leads = row_ends c r u at f.rest f.plain ∙ f.ends }

due_leads : (bs : List ℕ) (b : ℕ) (st : State) (at : ℕ) (r : List ℕ) → run at (due b bs st) (b ∷ (bs ++ r)) ≡ run (at + length (b ∷ bs)) st r
due_leads [] b st at r = run_step at (due b [] st) b r st (cond-true (eqb b b) (some st) none (eq-eqb b b refl))
due_leads (c ∷ cs) b st at r =
    let i = run_step at (due b (c ∷ cs) st) b (c ∷ (cs ++ r)) (due c cs st) (cond-true (eqb b b) (some (due c cs st)) none (eq-eqb b b refl)) in
    let j = due_leads cs c st (at + 1) r in
    let p : at + 1 + length (c ∷ cs) ≡ at + length (b ∷ c ∷ cs) = omega arith in
    cc

state_leads : {st : State} {s : List ℕ} → Before st s → (at : ℕ) → Leads at st
state_leads (at_want {w = w} q) at =
    let f = factor_ends w (number 0) (at + 1) in
    record { rest = 48 ∷ f.rest; tree = f.tree; leads = run_step at (want w) 48 f.rest (have (hand (number 0) w)) refl ∙ f.ends }
state_leads (at_have {h = h} q) at = let f = term_ends h.wait h.tree at in record { rest = f.rest; tree = f.tree; leads = f.ends }
state_leads (at_number {n = n} {w = w} p l e q) at =
    let f = factor_ends w (number n) at in record { rest = f.rest; tree = f.tree; leads = number_ends n w at f.rest f.plain ∙ f.ends }
state_leads (at_name {u = u} q) at =
    let f = row_leads 0 1 u (at + 1 + 1) (omega arith) in
    record {
      rest = 65 ∷ 49 ∷ f.rest;
      tree = f.tree;
      leads = run_step at (want_name u) 65 (49 ∷ f.rest) (want_row 0 u) refl ∙ (run_step (at + 1) (want_row 0 u) 49 f.rest (in_row 0 1 u) refl ∙ f.leads);
    }
state_leads (at_row {c = c} {u = u} l e q) at =
    let f = row_leads c 1 u (at + 1) (omega arith) in
    record { rest = 49 ∷ f.rest; tree = f.tree; leads = run_step at (want_row c u) 49 f.rest (in_row c 1 u) refl ∙ f.leads }
state_leads (at_digit {c = c} {r = r} {u = u} l p m e q) at = row_leads c r u at (omega arith)
state_leads (at_due {b = b} {bs = bs} {st = st} q) at =
    let f = state_leads q (at + length (b ∷ bs)) in
    record { rest = b ∷ (bs ++ f.rest); tree = f.tree; leads = due_leads bs b st at f.rest ∙ f.leads }
state_leads (at_count {mark = m} {c = c} {w = w} n l e q) at =
    let f = factor_ends w (total m c 1) (at + 1 + 1) in
    record {
      rest = 49 ∷ 41 ∷ f.rest;
      tree = f.tree;
      leads = run_step at (want_count m c w) 49 (41 ∷ f.rest) (due 41 [] (have (hand (total m c 1) w))) (count_good m c 1 w (omega arith) (omega arith) (omega arith))
          ∙ (run_step (at + 1) (due 41 [] (have (hand (total m c 1) w))) 41 f.rest (have (hand (total m c 1) w)) refl ∙ f.ends);
    }

-- the text before leads to the state
abbrev Reaches : List ℕ → State → Type 0
Reaches pre st = (cs : List ℕ) → run 0 (inside whole) (pre ++ cs) ≡ run (length pre) st cs

reads_fails : {t : Tree} {p : ℕ} → reads t ≡ fails p → ⊥
reads_fails e = let z : ◌≡◌ {A = ℕ} 0 1 = cc in omega arith

dead : (pre : List ℕ) (st : State) (b : ℕ) → Reaches pre st → step (length pre) st b ≡ none → (cs : List ℕ) → Legal (pre ++ b ∷ cs) → ⊥
dead pre st b r e cs f = reads_fails {t = f.0} {p = length pre} (sym (whole_reads (pre ++ b ∷ cs) f.0 f.1) ∙ (r (b ∷ cs) ∙ run_stop (length pre) st b cs e))

begins_here : (pre rest : List ℕ) (st : State) → Before st pre → Begins Legal (take (length pre) (pre ++ rest))
begins_here pre rest st q =
    let f = state_leads q (length pre) in
    let a = take_at pre rest (length pre) refl in
    record { rest = f.rest; legal = (f.tree, rw a (run_sound f.rest pre st q f.tree f.leads)) }

past : (pre : List ℕ) (b : ℕ) (bs : List ℕ) (n : ℕ) → length pre < n → (r : List ℕ) → take n (pre ++ b ∷ bs) ++ r ≡ pre ++ b ∷ (take (n - length pre - 1) bs ++ r)
past pre b bs n l r =
    let k : n ≡ length pre + suc (n - length pre - 1) = omega arith in
    let t = take-append-add pre (b ∷ bs) (suc (n - length pre - 1)) in
    let a = append_assoc pre (b ∷ take (n - length pre - 1) bs) r in
    cc

legal_same : {s s' : List ℕ} → s ≡ s' → Legal s → Legal s'
legal_same e h = rw (← e) h

longest_same : {s s' : List ℕ} {p : ℕ} → s ≡ s' → Longest Legal s p → Longest Legal s' p
longest_same e h = rw (← e) h

longest_at : {s : List ℕ} {p p' : ℕ} → p ≡ p' → Longest Legal s p → Longest Legal s p'
longest_at e h = rw (← e) h

longest_from : (bs pre : List ℕ) (st : State) → Before st pre → Reaches pre st → (p : ℕ) → run (length pre) st bs ≡ fails p → Longest Legal (pre ++ bs) p
unfolding run
longest_from [] pre st q r p e =
    let z : length pre ≡ p = last (end st) e in
    let l = length-append pre [] in
    longest_at z (record {
      fits = omega arith;
      begins = begins_here pre [] st q;
      ends = λ n a b c. omega arith;
      illegal = λ f. reads_fails (sym (whole_reads (pre ++ []) f.0 f.1) ∙ (r [] ∙ e));
    })
  where
    last : (o : Option Tree) → ended (length pre) o ≡ fails p → length pre ≡ p
    last none f = cc
    last (some t) f = absurd (reads_fails f)
longest_from (b ∷ bs) pre st q r p e = go (step (length pre) st b) refl (step_good q b) e (longest_from bs (pre ++ b ∷ []))
  where
    go : (o : Option State) → step (length pre) st b ≡ o → Good o (pre ++ b ∷ []) → onward (length pre) o (λ n. run (length pre + 1) n bs) ≡ fails p
        → ((st : State) → Before st (pre ++ b ∷ []) → Reaches (pre ++ b ∷ []) st → (p : ℕ) → run (length (pre ++ b ∷ [])) st bs ≡ fails p → Longest Legal ((pre ++ b ∷ []) ++ bs) p)
        → Longest Legal (pre ++ b ∷ bs) p
    go none x g f h =
        let z : length pre ≡ p = cc in
        let l = length-append pre (b ∷ bs) in
        longest_at z (record {
          fits = omega arith;
          begins = begins_here pre (b ∷ bs) st q;
          ends = λ n a c d. dead pre st b r x (take (n - length pre - 1) bs ++ d.rest) (legal_same (past pre b bs n a d.rest) d.legal);
          illegal = dead pre st b r x bs;
        })
    go (some next) x g f h =
        let l = length-append pre (b ∷ []) in
        let k : length (pre ++ b ∷ []) ≡ length pre + 1 = omega arith in
        longest_same (append_assoc pre (b ∷ []) bs)
        (h next g
        (λ cs. let a = append_assoc pre (b ∷ []) cs in let i = r (b ∷ cs) in let j = run_step (length pre) st b cs next x in cc)
        p (cc))

before_start : Before (inside whole) []
before_start = at_want (at_first_factor (at_first_term (at_whole refl)))

pub reading_legal : (text : List ℕ) (t : Tree) → reading text ≡ reads t → Formula 0 text t
reading_legal text t e = run_sound text [] (inside whole) before_start t e

reading_longest : (text : List ℕ) (p : ℕ) → reading text ≡ fails p → Longest Legal text p
reading_longest text p e = longest_from text [] (inside whole) before_start (λ cs. refl) p e

one_longest : (text : List ℕ) (p n : ℕ) → Longest Legal text p → Longest Legal text n → p ≡ n
one_longest text p n h k =
    ⊎_elim (λ e. e) (λ o. ⊎_elim (λ l. absurd (h.ends n l k.fits k.begins)) (λ l. absurd (k.ends p l h.fits h.begins)) o) (cases_order p n)

pub one_reading_lem : OneReading
one_reading_lem text t u f g =
    let a = whole_reads text t f in let b = whole_reads text u g in cc

legal_not : (d : Def Whole) (p : ℕ) → legal d ≡ illegal p → ⊥
legal_not d p e = let z : ◌≡◌ {A = ℕ} 0 1 = cc in omega arith

right_by : (text : List ℕ) (r : Reading) → reading text ≡ r → Right text
right_by text (reads t) e = record {
  legal_if = λ u f. ap verdict_of (whole_reads text u f);
  legal_only = λ d g. let h : legal (meaning t) ≡ legal d = sym (ap verdict_of e) ∙ g in (t, reading_legal text t e, (cc));
  illegal_if = λ p l. absurd (l.illegal (t, reading_legal text t e));
  illegal_only = λ p g. absurd (legal_not (meaning t) p (sym (ap verdict_of e) ∙ g));
}
right_by text (fails n) e = record {
  legal_if = λ u f. ap verdict_of (whole_reads text u f);
  legal_only = λ d g. absurd (legal_not d n (sym g ∙ ap verdict_of e));
  illegal_if = λ p l. ap verdict_of e ∙ ap illegal (one_longest text n p (reading_longest text n e) l);
  illegal_only = λ p g. let h : illegal n ≡ illegal p = sym (ap verdict_of e) ∙ g in let i : n ≡ p = cc in longest_at i (reading_longest text n e);
}

pub stands_right_lem : StandsRight
stands_right_lem text = right_by text (reading text) refl
