-- What the reader holds has been read: each of its states tells the text before it.
use Rattle.std.proofs.Common.{◌≡◌, ℕ, ◌+◌, ◌*◌, ◌/◌, ◌%◌, ◌<◌, ◌≤◌, true, false, cond, eqb, ltb, leb, List, [], ◌∷◌, ◌++◌, length, codes, decimal, sym, refl, ap, append_assoc, arith}
use mathlib.Core.Option.{Option, none, some}
use Rattle.std.proofs.lemmas.Bool.Decides.{nat_tests}
use Rattle.std.proofs.lemmas.Bool.{ltb-true, leb-true, eqb-true, cond_both}
use Rattle.std.proofs.lemmas.List.{append-nil, length-append}
use Rattle.std.proofs.lemmas.Fmt.{decimal_step, decimal_digit}
use Rattle.interfaces.specs.Cells.{cell_count}
use Rattle.names.specs.Names.{row_count, column_count, name_of}
use Rattle.whole.specs.Whole.{whole_limit}
use Rattle.formula.specs.declared.byte.Operator.{Operator}
use Rattle.formula.specs.declared.byte.Link.{Link}
use Rattle.formula.specs.declared.byte.Link.TheVariants.{Weak, Strong, Loose}
use Rattle.formula.specs.declared.byte.Start.{Start}
use Rattle.formula.specs.declared.byte.Start.TheVariants.{Negation, Group, Choice, Lookup, Total, Digit, Column, Other}
use Rattle.formula.specs.Bytes.{link_of, digit_of, column_of, start_of}
use Rattle.formula.specs.Grammar.{Tree, number, cell, negated, joined, choice, lookup, total, sum_limit, Formula, a_term, a_sum, Term, a_factor, a_product, Factor, a_number, a_cell, a_minus, a_group, a_choice, a_lookup, a_total}
use Rattle.formula.specs.Reader.{Around, whole, in_group, in_first, in_second, in_third, in_lookup, AtTerm, first_term, after_sum, AtFactor, first_factor, after_product, behind_minus, Held, Use, as_factor, as_first, State, want, have, in_number, want_name, want_row, in_row, due, want_count, due_all, inside, closed, around, hand, begin, shut, link, follow, meet, named, after_name, cell_at, more_number, name_begins, row_begins, more_row, counted, step, finish, end_held, end, ended, onward, reads, run}
use Rattle.formula.proofs.Bytes.{digit_is, column_is, negation_is, group_is, choice_is, lookup_is, total_is, start_digit_is, start_column_is}

factor_same : {at at' : ℕ} {s s' : List ℕ} {t t' : Tree} → at ≡ at' → s ≡ s' → t ≡ t' → Factor at s t → Factor at' s' t'
factor_same e f g h = rw (← e, ← f, ← g) h

formula_same : {at at' : ℕ} {s s' : List ℕ} {t t' : Tree} → at ≡ at' → s ≡ s' → t ≡ t' → Formula at s t → Formula at' s' t'
formula_same e f g h = rw (← e, ← f, ← g) h

term_same : {at at' : ℕ} {s s' : List ℕ} {t t' : Tree} → at ≡ at' → s ≡ s' → t ≡ t' → Term at s t → Term at' s' t'
term_same e f g h = rw (← e, ← f, ← g) h

-- the text before what waits
mutual
  pub data BeforeFormula : Around → List ℕ → Type 0 where
    at_whole : {s : List ℕ} → s ≡ [] → BeforeFormula whole s
    at_group : {w : AtFactor} {s s' : List ℕ} → s ≡ s' ++ 40 ∷ [] → BeforeFactor w s' → BeforeFormula (in_group w) s
    at_first : {w : AtFactor} {s s' : List ℕ} → s ≡ s' ++ codes "if(" → BeforeFactor w s' → BeforeFormula (in_first w) s
    at_second : {w : AtFactor} {t : Tree} {s s' u : List ℕ} → s ≡ s' ++ (codes "if(" ++ (u ++ 44 ∷ [])) → Formula (length s' + 3) u t → BeforeFactor w s' → BeforeFormula (in_second t w) s
    at_third : {w : AtFactor} {t t' : Tree} {s s' u u' : List ℕ} → s ≡ s' ++ (codes "if(" ++ (u ++ 44 ∷ (u' ++ 44 ∷ []))) → Formula (length s' + 3) u t → Formula (length s' + 3 + length u + 1) u' t'
        → BeforeFactor w s' → BeforeFormula (in_third t t' w) s
    at_lookup : {w : AtFactor} {mark : ℕ} {s s' : List ℕ} → mark ≡ length s' → s ≡ s' ++ codes "at(" → BeforeFactor w s' → BeforeFormula (in_lookup mark w) s

  pub data BeforeTerm : AtTerm → List ℕ → Type 0 where
    at_first_term : {k : Around} {s : List ℕ} → BeforeFormula k s → BeforeTerm (first_term k) s
    at_sum : {left : Tree} {o : Operator} {mark : ℕ} {k : Around} {s s' u : List ℕ} (b : ℕ) → link_of b ≡ Weak o → s ≡ s' ++ (u ++ b ∷ []) → mark ≡ length s' + length u
        → Formula (length s') u left → BeforeFormula k s' → BeforeTerm (after_sum left o mark k) s

  pub data BeforeFactor : AtFactor → List ℕ → Type 0 where
    at_first_factor : {w : AtTerm} {s : List ℕ} → BeforeTerm w s → BeforeFactor (first_factor w) s
    at_product : {left : Tree} {o : Operator} {mark : ℕ} {w : AtTerm} {s s' u : List ℕ} (b : ℕ) → link_of b ≡ Strong o → s ≡ s' ++ (u ++ b ∷ []) → mark ≡ length s' + length u
        → Term (length s') u left → BeforeTerm w s' → BeforeFactor (after_product left o mark w) s
    at_minus : {w : AtFactor} {s s' : List ℕ} → s ≡ s' ++ 45 ∷ [] → BeforeFactor w s' → BeforeFactor (behind_minus w) s

pub record BeforeHeld (h : Held) (s : List ℕ) : Type 0 where
  pub s' : List ℕ
  pub u : List ℕ
  pub split : s ≡ s' ++ u
  pub term : Term (length s') u h.tree
  pub before : BeforeTerm h.wait s'

pub data BeforeUse : Use → List ℕ → Type 0 where
  use_factor : {w : AtFactor} {s : List ℕ} → BeforeFactor w s → BeforeUse (as_factor w) s
  use_first : {w : AtFactor} {mark : ℕ} {s s' : List ℕ} → mark ≡ length s' → s ≡ s' ++ codes "sum(" → BeforeFactor w s' → BeforeUse (as_first mark w) s

pub data Before : State → List ℕ → Type 0 where
  at_want : {w : AtFactor} {s : List ℕ} → BeforeFactor w s → Before (want w) s
  at_have : {h : Held} {s : List ℕ} → BeforeHeld h s → Before (have h) s
  at_number : {n : ℕ} {w : AtFactor} {s s' : List ℕ} → 0 < n → n ≤ whole_limit → s ≡ s' ++ decimal n → BeforeFactor w s' → Before (in_number n w) s
  at_name : {u : Use} {s : List ℕ} → BeforeUse u s → Before (want_name u) s
  at_row : {c : ℕ} {u : Use} {s s' : List ℕ} → c < column_count → s ≡ s' ++ (65 + c) ∷ [] → BeforeUse u s' → Before (want_row c u) s
  at_digit : {c r : ℕ} {u : Use} {s s' : List ℕ} → c < column_count → 0 < r → r < 10 → s ≡ s' ++ (65 + c) ∷ (48 + r) ∷ [] → BeforeUse u s' → Before (in_row c r u) s
  at_due : {b : ℕ} {bs : List ℕ} {st : State} {s : List ℕ} → Before st (s ++ b ∷ bs) → Before (due b bs st) s
  at_count : {mark c : ℕ} {w : AtFactor} {s s' : List ℕ} → mark ≡ length s' → c < cell_count → s ≡ s' ++ (codes "sum(" ++ (name_of c ++ 44 ∷ [])) → BeforeFactor w s' → Before (want_count mark c w) s

before_same : {st : State} {s s' : List ℕ} → s ≡ s' → Before st s → Before st s'
before_same e h = rw (← e) h

-- a factor is complete
hand_before : {w : AtFactor} {s' : List ℕ} → BeforeFactor w s' → (t : Tree) (s u : List ℕ) → s ≡ s' ++ u → Factor (length s') u t → BeforeHeld (hand t w) s
hand_before {s' = s'} (at_first_factor q) t s u e f = record { s' = s'; u = u; split = e; term = a_factor f; before = q }
hand_before {s' = s'} (at_product {left = left} {o = o} {mark = mark} {s' = s₀} {u = v} b x i m g q) t s u e f =
    let a = append_assoc s₀ (v ++ b ∷ []) u in
    let a' = append_assoc v (b ∷ []) u in
    let l = length-append s₀ (v ++ b ∷ []) in
    let l' = length-append v (b ∷ []) in
    let y = ap length i in
    let p : length s' ≡ length s₀ + length v + 1 = omega arith in
    record {
      s' = s₀;
      u = v ++ b ∷ u;
      split = cc;
      term = term_same refl refl (ap (λ n. joined o n left t) (sym m)) (a_product b o x g (factor_same p refl refl f));
      before = q;
    }
hand_before {s' = s'} (at_minus {s' = s₀} i q) t s u e f =
    let a = append_assoc s₀ (45 ∷ []) u in
    let l = length-append s₀ (45 ∷ []) in
    let y = ap length i in
    let p : length s' ≡ length s₀ + 1 = omega arith in
    hand_before q (negated t) s (45 ∷ u) (cc) (a_minus (factor_same p refl refl f))

-- a formula is complete
record Closed (t : Tree) (k : Around) (s : List ℕ) : Type 0 where
  s' : List ℕ
  u : List ℕ
  split : s ≡ s' ++ u
  reads : Formula (length s') u t
  before : BeforeFormula k s'

close_term : {w : AtTerm} {s' : List ℕ} → BeforeTerm w s' → (t : Tree) (s u : List ℕ) → s ≡ s' ++ u → Term (length s') u t → Closed (closed t w) (around w) s
close_term {s' = s'} (at_first_term q) t s u e f = record { s' = s'; u = u; split = e; reads = a_term f; before = q }
close_term {s' = s'} (at_sum {left = left} {o = o} {s' = s₀} {u = v} b x i m g q) t s u e f =
    let a = append_assoc s₀ (v ++ b ∷ []) u in
    let a' = append_assoc v (b ∷ []) u in
    let l = length-append s₀ (v ++ b ∷ []) in
    let l' = length-append v (b ∷ []) in
    let y = ap length i in
    let p : length s' ≡ length s₀ + length v + 1 = omega arith in
    record {
      s' = s₀;
      u = v ++ b ∷ u;
      split = cc;
      reads = formula_same refl refl (ap (λ n. joined o n left t) (sym m)) (a_sum b o x g (term_same p refl refl f));
      before = q;
    }

-- one byte more
abbrev pub Good : Option State → List ℕ → Type 0
Good none s = Unit {0}
Good (some st) s = Before st s

begin_good : {w : AtFactor} {s : List ℕ} → BeforeFactor w s → (b : ℕ) (z : Start) → start_of b ≡ z → Good (begin (length s) w z) (s ++ b ∷ [])
begin_good {s = s} q b Negation e = at_want (at_minus (ap (λ x. s ++ x ∷ []) (negation_is b e)) q)
begin_good {s = s} q b Group e = at_want (at_first_factor (at_first_term (at_group (ap (λ x. s ++ x ∷ []) (group_is b e)) q)))
begin_good {s = s} q b Choice e =
    let h = choice_is b e in let a = append_assoc s (b ∷ []) (102 ∷ 40 ∷ []) in
    at_due (at_want (at_first_factor (at_first_term (at_first (cc) q))))
begin_good {s = s} q b Lookup e =
    let h = lookup_is b e in let a = append_assoc s (b ∷ []) (116 ∷ 40 ∷ []) in
    at_due (at_want (at_first_factor (at_first_term (at_lookup refl (cc) q))))
begin_good {s = s} q b Total e =
    let h = total_is b e in let a = append_assoc s (b ∷ []) (117 ∷ 109 ∷ 40 ∷ []) in
    at_due (at_name (use_first refl (cc) q))
begin_good {w = w} {s = s} q b (Digit d) e =
    let h = start_digit_is b d e in
    let i = decimal_digit d h.0 in
    let j = h.1 in
    cond_both (eqb d 0) (have (hand (number 0) w)) (in_number d w) (λ st. Before st (s ++ b ∷ []))
    (λ z. let y = eqb-true d 0 z in let i' = decimal_digit 0 (omega arith) in
    at_have (hand_before q (number 0) (s ++ b ∷ []) (decimal 0) (cc) (a_number 0 (omega arith))))
    (λ z. let y : 0 < d = grind (arith, nat_tests) in at_number y (omega arith) (cc) q)
begin_good {s = s} q b (Column c) e = let h = start_column_is b c e in let j = h.1 in at_row h.0 (cc) (use_factor q)
begin_good q b Other e = tt

shut_good : {t : Tree} {k : Around} {s : List ℕ} → BeforeFormula k s → (s⁺ u : List ℕ) → s⁺ ≡ s ++ u → Formula (length s) u t → (b : ℕ) → Good (shut t k b) (s⁺ ++ b ∷ [])
shut_good (at_whole i) s⁺ u e f b = tt
shut_good {t = t} {s = s} (at_group {w = w} {s' = s₀} i q) s⁺ u e f b =
    cond_both (eqb b 41) (some (have (hand t w))) none (λ o. Good o (s⁺ ++ b ∷ []))
    (λ z. let y = eqb-true b 41 z in
    let a = append_assoc (s₀ ++ 40 ∷ []) u (41 ∷ []) in
    let a' = append_assoc s₀ (40 ∷ []) (u ++ 41 ∷ []) in
    let l = length-append s₀ (40 ∷ []) in let m = ap length i in
    let p : length s ≡ length s₀ + 1 = omega arith in
    at_have (hand_before q t (s⁺ ++ b ∷ []) (40 ∷ (u ++ 41 ∷ [])) (cc) (a_group (formula_same p refl refl f))))
    (λ z. tt)
shut_good {t = t} {s = s} (at_first {w = w} {s' = s₀} i q) s⁺ u e f b =
    cond_both (eqb b 44) (some (inside (in_second t w))) none (λ o. Good o (s⁺ ++ b ∷ []))
    (λ z. let y = eqb-true b 44 z in
    let a = append_assoc (s₀ ++ codes "if(") u (44 ∷ []) in
    let a' = append_assoc s₀ (codes "if(") (u ++ 44 ∷ []) in
    let l = length-append s₀ (codes "if(") in let m = ap length i in
    let p : length s ≡ length s₀ + 3 = omega arith in
    at_want (at_first_factor (at_first_term (at_second {u = u} (cc) (formula_same p refl refl f) q))))
    (λ z. tt)
shut_good {t = t} {s = s} (at_second {w = w} {t = t₁} {s' = s₀} {u = v} i g q) s⁺ u e f b =
    cond_both (eqb b 44) (some (inside (in_third t₁ t w))) none (λ o. Good o (s⁺ ++ b ∷ []))
    (λ z. let y = eqb-true b 44 z in
    let a = append_assoc (s₀ ++ (codes "if(" ++ (v ++ 44 ∷ []))) u (44 ∷ []) in
    let a' = append_assoc s₀ (codes "if(" ++ (v ++ 44 ∷ [])) (u ++ 44 ∷ []) in
    let a'' = append_assoc v (44 ∷ []) (u ++ 44 ∷ []) in
    let l = length-append s₀ (codes "if(" ++ (v ++ 44 ∷ [])) in let l' = length-append v (44 ∷ []) in let m = ap length i in
    let p : length s ≡ length s₀ + 3 + length v + 1 = omega arith in
    at_want (at_first_factor (at_first_term (at_third {u = v} {u' = u} (cc) g (formula_same p refl refl f) q))))
    (λ z. tt)
shut_good {t = t} {s = s} (at_third {w = w} {t = t₁} {t' = t₂} {s' = s₀} {u = v} {u' = v'} i g g' q) s⁺ u e f b =
    cond_both (eqb b 41) (some (have (hand (choice t₁ t₂ t) w))) none (λ o. Good o (s⁺ ++ b ∷ []))
    (λ z. let y = eqb-true b 41 z in
    let a = append_assoc (s₀ ++ (codes "if(" ++ (v ++ 44 ∷ (v' ++ 44 ∷ [])))) u (41 ∷ []) in
    let a' = append_assoc s₀ (codes "if(" ++ (v ++ 44 ∷ (v' ++ 44 ∷ []))) (u ++ 41 ∷ []) in
    let a'' = append_assoc v (44 ∷ (v' ++ 44 ∷ [])) (u ++ 41 ∷ []) in
    let a₃ = append_assoc v' (44 ∷ []) (u ++ 41 ∷ []) in
    let l = length-append s₀ (codes "if(" ++ (v ++ 44 ∷ (v' ++ 44 ∷ []))) in
    let l' = length-append v (44 ∷ (v' ++ 44 ∷ [])) in let l'' = length-append v' (44 ∷ []) in let m = ap length i in
    let p : length s ≡ length s₀ + 3 + length v + 1 + length v' + 1 = omega arith in
    at_have (hand_before q (choice t₁ t₂ t) (s⁺ ++ b ∷ []) (codes "if(" ++ (v ++ 44 ∷ (v' ++ 44 ∷ (u ++ 41 ∷ [])))) (cc) (a_choice g g' (formula_same p refl refl f))))
    (λ z. tt)
shut_good {t = t} {s = s} (at_lookup {w = w} {mark = mark} {s' = s₀} n i q) s⁺ u e f b =
    cond_both (eqb b 41) (some (have (hand (lookup mark t) w))) none (λ o. Good o (s⁺ ++ b ∷ []))
    (λ z. let y = eqb-true b 41 z in
    let a = append_assoc (s₀ ++ codes "at(") u (41 ∷ []) in
    let a' = append_assoc s₀ (codes "at(") (u ++ 41 ∷ []) in
    let l = length-append s₀ (codes "at(") in let m = ap length i in
    let p : length s ≡ length s₀ + 3 = omega arith in
    at_have (hand_before q (lookup mark t) (s⁺ ++ b ∷ []) (codes "at(" ++ (u ++ 41 ∷ [])) (cc)
    (factor_same refl refl (ap (λ x. lookup x t) (sym n)) (a_lookup (formula_same p refl refl f)))))
    (λ z. tt)

link_good : {h : Held} {s : List ℕ} → BeforeHeld h s → (b : ℕ) (z : Link) → link_of b ≡ z → Good (link (length s) h b z) (s ++ b ∷ [])
link_good {h = h} {s = s} q b (Weak o) e =
    let k = close_term q.before h.tree s q.u q.split q.term in
    let a = append_assoc k.s' k.u (b ∷ []) in
    let l = length-append k.s' k.u in let i = k.split in let m = ap length i in
    at_want (at_first_factor (at_sum {s' = k.s'} {u = k.u} b e (cc) (cc) k.reads k.before))
link_good {h = h} {s = s} q b (Strong o) e =
    let a = append_assoc q.s' q.u (b ∷ []) in
    let l = length-append q.s' q.u in let i = q.split in let m = ap length i in
    at_want (at_product {s' = q.s'} {u = q.u} b e (cc) (cc) q.term q.before)
link_good {h = h} {s = s} q b Loose e =
    let k = close_term q.before h.tree s q.u q.split q.term in
    shut_good k.before s k.u k.split k.reads b

follow_good : {h : Held} {s : List ℕ} → BeforeHeld h s → (b : ℕ) → Good (follow (length s) h b) (s ++ b ∷ [])
follow_good q b = link_good q b (link_of b) refl

meet_good : (c : ℕ) (cs : List ℕ) {st : State} (s : List ℕ) → Before st (s ++ c ∷ cs) → (b : ℕ) → Good (meet c cs st b) (s ++ b ∷ [])
meet_good c cs {st = st} s q b =
    cond_both (eqb b c) (some (due_all cs st)) none (λ o. Good o (s ++ b ∷ [])) (λ z. more cs q (eqb-true b c z)) (λ z. tt)
  where
    more : (cs : List ℕ) → Before st (s ++ c ∷ cs) → b ≡ c → Before (due_all cs st) (s ++ b ∷ [])
    more [] q e = before_same (cc) q
    more (d ∷ ds) q e = let a = append_assoc s (b ∷ []) (d ∷ ds) in at_due (before_same (cc) q)

pub name_is : (c r : ℕ) → c < column_count → 0 < r → r < 10 → name_of (cell_at c r) ≡ (65 + c) ∷ (48 + r) ∷ []
name_is c r h l m =
    let a : (cell_at c r) / row_count ≡ c = omega arith in
    let b : (cell_at c r) % row_count + 1 ≡ r = omega arith in
    let d : ltb r 10 ≡ true = grind (arith, nat_tests) in
    rw (a, b, d) refl

pub name_long : (c r d : ℕ) → c < column_count → 0 < r → d < 10 → r * 10 + d ≤ row_count → name_of (cell_at c (r * 10 + d)) ≡ (65 + c) ∷ (48 + r) ∷ (48 + d) ∷ []
name_long c r d h l m n =
    let a : (cell_at c (r * 10 + d)) / row_count ≡ c = omega arith in
    let b : (cell_at c (r * 10 + d)) % row_count + 1 ≡ r * 10 + d = omega arith in
    let x : ltb (r * 10 + d) 10 ≡ false = grind (arith, nat_tests) in
    let y : (r * 10 + d) / 10 ≡ r = omega arith in
    let z : (r * 10 + d) % 10 ≡ d = omega arith in
    rw (a, b, x, y, z) refl

named_before : {u : Use} {s' : List ℕ} → BeforeUse u s' → (c : ℕ) (s : List ℕ) → c < cell_count → s ≡ s' ++ name_of c → Before (named u c) s
named_before (use_factor q) c s l e = at_have (hand_before q (cell c) s (name_of c) e (a_cell c l))
named_before (use_first {s' = s₀} m i q) c s l e =
    let a = append_assoc s₀ (codes "sum(") (name_of c) in
    let a' = append_assoc s₀ (codes "sum(" ++ name_of c) (44 ∷ []) in
    let a'' = append_assoc (name_of c) (44 ∷ []) [] in
    at_due (at_count {s' = s₀} m l (cc) q)

after_name_good : {u : Use} {s' : List ℕ} → BeforeUse u s' → (c : ℕ) (s : List ℕ) → c < cell_count → s ≡ s' ++ name_of c → (b : ℕ) → Good (after_name (length s) u c b) (s ++ b ∷ [])
after_name_good (use_factor q) c s l e b = follow_good (hand_before q (cell c) s (name_of c) e (a_cell c l)) b
after_name_good (use_first {s' = s₀} m i q) c s l e b =
    let a = append_assoc s₀ (codes "sum(") (name_of c) in
    let a' = append_assoc s₀ (codes "sum(" ++ name_of c) (44 ∷ []) in
    meet_good 44 [] s (at_count {s' = s₀} m l (cc) q) b

pub step_good : {st : State} {s : List ℕ} → Before st s → (b : ℕ) → Good (step (length s) st b) (s ++ b ∷ [])
step_good (at_want q) b = begin_good q b (start_of b) refl
step_good (at_have q) b = follow_good q b
step_good {s = s} (at_number {n = n} {w = w} {s' = s₀} p l e q) b = go (digit_of b) refl
  where
    go : (z : Option ℕ) → digit_of b ≡ z → Good (more_number (length s) n w b z) (s ++ b ∷ [])
    go none f = follow_good (hand_before q (number n) s (decimal n) e (a_number n l)) b
    go (some d) f =
        let h = digit_is b d f in
        let h₁ = h.1 in
        let h₀ = h.0 in
        cond_both (leb (n * 10 + d) whole_limit) (some (in_number (n * 10 + d) w)) none (λ o. Good o (s ++ b ∷ []))
        (λ z. let y = leb-true (n * 10 + d) whole_limit z in
        let i = decimal_step (n * 10 + d) (omega arith) (omega arith) in
        let j : (n * 10 + d) / 10 ≡ n = omega arith in
        let k : (n * 10 + d) % 10 ≡ d = omega arith in
        let a = append_assoc s₀ (decimal n) (b ∷ []) in
        at_number (omega arith) y (cc) q)
        (λ z. tt)
step_good {s = s} (at_name {u = u} q) b = go (column_of b) refl
  where
    go : (z : Option ℕ) → column_of b ≡ z → Good (name_begins u z) (s ++ b ∷ [])
    go none f = tt
    go (some c) f = let h = column_is b c f in let h₁ = h.1 in at_row h.0 (cc) q
step_good {s = s} (at_row {c = c} {u = u} {s' = s₀} l e q) b = go (digit_of b) refl
  where
    go : (z : Option ℕ) → digit_of b ≡ z → Good (row_begins c u z) (s ++ b ∷ [])
    go none f = tt
    go (some d) f =
        let h = digit_is b d f in let h₁ = h.1 in
        let a = append_assoc s₀ ((65 + c) ∷ []) (b ∷ []) in
        cond_both (eqb d 0) none (some (in_row c d u)) (λ o. Good o (s ++ b ∷ []))
        (λ z. tt) (λ z. let y : 0 < d = grind (arith, nat_tests) in at_digit l y h.0 (cc) q)
step_good {s = s} (at_digit {c = c} {r = r} {u = u} {s' = s₀} l p m e q) b = go (digit_of b) refl
  where
    go : (z : Option ℕ) → digit_of b ≡ z → Good (more_row (length s) c r u b z) (s ++ b ∷ [])
    go none f = let i = name_is c r l p m in after_name_good q (cell_at c r) s (omega arith) (cc) b
    go (some d) f =
        let h = digit_is b d f in let h₁ = h.1 in let h₀ = h.0 in
        let a = append_assoc s₀ ((65 + c) ∷ (48 + r) ∷ []) (b ∷ []) in
        cond_both (leb (r * 10 + d) row_count) (some (named u (cell_at c (r * 10 + d)))) none (λ o. Good o (s ++ b ∷ []))
        (λ z. let y = leb-true (r * 10 + d) row_count z in
        let i = name_long c r d l p h₀ y in
        named_before q (cell_at c (r * 10 + d)) (s ++ b ∷ []) (omega arith) (cc))
        (λ z. tt)
step_good {s = s} (at_due {b = c} {bs = cs} q) b = meet_good c cs s q b
step_good {s = s} (at_count {mark = mark} {c = c} {w = w} {s' = s₀} m l e q) b = go (digit_of b) refl
  where
    go : (z : Option ℕ) → digit_of b ≡ z → Good (counted mark c w z) (s ++ b ∷ [])
    go none f = tt
    go (some d) f =
        let h = digit_is b d f in let h₁ = h.1 in
        cond_both (ltb 0 d) (cond (leb d sum_limit) (cond (leb (c + d) cell_count) (some (due 41 [] (have (hand (total mark c d) w)))) none) none) none (λ o. Good o (s ++ b ∷ []))
        (λ x. cond_both (leb d sum_limit) (cond (leb (c + d) cell_count) (some (due 41 [] (have (hand (total mark c d) w)))) none) none (λ o. Good o (s ++ b ∷ []))
        (λ y. cond_both (leb (c + d) cell_count) (some (due 41 [] (have (hand (total mark c d) w)))) none (λ o. Good o (s ++ b ∷ []))
        (λ z.
        let a = append_assoc s (b ∷ []) (41 ∷ []) in
        let a' = append_assoc s₀ (codes "sum(" ++ (name_of c ++ 44 ∷ [])) (b ∷ 41 ∷ []) in
        let a'' = append_assoc (name_of c) (44 ∷ []) (b ∷ 41 ∷ []) in
        at_due (at_have (hand_before q (total mark c d) ((s ++ b ∷ []) ++ 41 ∷ []) (codes "sum(" ++ (name_of c ++ 44 ∷ (48 + d) ∷ 41 ∷ [])) (cc)
        (factor_same refl refl (ap (λ n. total n c d) (sym m)) (a_total c d (ltb-true 0 d x) (leb-true d sum_limit y) (leb-true (c + d) cell_count z))))))
        (λ z. tt))
        (λ y. tt))
        (λ x. tt)

-- the end
none_some : {t : Tree} → ◌≡◌ {A = Option Tree} none (some t) → ⊥
none_some e = let z : ◌≡◌ {A = ℕ} 0 1 = cc in omega arith

finish_good : {k : Around} {s' : List ℕ} → BeforeFormula k s' → (f t : Tree) (s u : List ℕ) → s ≡ s' ++ u → Formula (length s') u f → finish f k ≡ some t → Formula 0 s t
finish_good (at_whole i) f t s u e g h = let j : f ≡ t = cc in formula_same (ap length i) (cc) j g
finish_good (at_group i q) f t s u e g h = absurd (none_some h)
finish_good (at_first i q) f t s u e g h = absurd (none_some h)
finish_good (at_second i x q) f t s u e g h = absurd (none_some h)
finish_good (at_third i x y q) f t s u e g h = absurd (none_some h)
finish_good (at_lookup n i q) f t s u e g h = absurd (none_some h)

held_good : {h : Held} {s : List ℕ} → BeforeHeld h s → (t : Tree) → end_held h ≡ some t → Formula 0 s t
held_good {h = h} {s = s} q t e =
    let k = close_term q.before h.tree s q.u q.split q.term in
    finish_good k.before (closed h.tree h.wait) t s k.u k.split k.reads e

pub end_good : {st : State} {s : List ℕ} → Before st s → (t : Tree) → end st ≡ some t → Formula 0 s t
end_good (at_want q) t e = absurd (none_some e)
end_good (at_have q) t e = held_good q t e
end_good {s = s} (at_number {n = n} p l i q) t e = held_good (hand_before q (number n) s (decimal n) i (a_number n l)) t e
end_good (at_name q) t e = absurd (none_some e)
end_good (at_row l i q) t e = absurd (none_some e)
end_good {s = s} (at_digit {c = c} {r = r} l p m i (use_factor q)) t e =
    let j = name_is c r l p m in held_good (hand_before q (cell (cell_at c r)) s (name_of (cell_at c r)) (cc) (a_cell (cell_at c r) (omega arith))) t e
end_good (at_digit l p m i (use_first n j q)) t e = absurd (none_some e)
end_good (at_due q) t e = absurd (none_some e)
end_good (at_count m l i q) t e = absurd (none_some e)

-- what is read is a formula
pub run_sound : (bs s : List ℕ) (st : State) → Before st s → (t : Tree) → run (length s) st bs ≡ reads t → Formula 0 (s ++ bs) t
unfolding run
run_sound [] s st q t e = formula_same refl (sym (append-nil s)) refl (end_good q t (last (end st) e))
  where
    last : (o : Option Tree) → ended (length s) o ≡ reads t → o ≡ some t
    last none f = absurd (let z : ◌≡◌ {A = ℕ} 0 1 = cc in omega arith)
    last (some u) f = cc
run_sound (b ∷ bs) s st q t e = go (step (length s) st b) (step_good q b) e (run_sound bs (s ++ b ∷ []))
  where
    go : (o : Option State) → Good o (s ++ b ∷ []) → onward (length s) o (λ n. run (length s + 1) n bs) ≡ reads t
        → ((st : State) → Before st (s ++ b ∷ []) → (t : Tree) → run (length (s ++ b ∷ [])) st bs ≡ reads t → Formula 0 ((s ++ b ∷ []) ++ bs) t) → Formula 0 (s ++ b ∷ bs) t
    go none g f h = absurd (let z : ◌≡◌ {A = ℕ} 0 1 = cc in omega arith)
    go (some st') g f h =
        let l = length-append s (b ∷ []) in
        let p : length (s ++ b ∷ []) ≡ length s + 1 = omega arith in
        formula_same refl (append_assoc s (b ∷ []) bs) refl (h st' g t (cc))
