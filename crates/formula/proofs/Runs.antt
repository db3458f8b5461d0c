-- The reader takes every formula, and holds its tree then.
use Rattle.std.proofs.Common.{◌≡◌, ℕ, zero, suc, ◌+◌, ◌*◌, ◌/◌, ◌%◌, ◌^◌, ◌<◌, ◌≤◌, Bool, true, false, cond, eqb, ltb, leb, List, [], ◌∷◌, ◌++◌, length, decimal, refl, ap, ◌∙◌, append_assoc, arith}
use mathlib.Core.Option.{Option, none, some}
use Rattle.std.proofs.lemmas.Bool.{ltb-true, ltb-false, lt-ltb, le-leb, ne_eqb, cond-true, cond-false}
use Rattle.std.proofs.lemmas.List.{append-nil, length-append}
use Rattle.std.proofs.lemmas.Fmt.{decimal_by_steps, decimal_digit}
use Rattle.interfaces.specs.Cells.{cell_count}
use Rattle.names.specs.Names.{row_count, row_name, name_of}
use Rattle.whole.specs.Whole.{whole_limit}
use Rattle.formula.specs.declared.byte.Operator.{Operator}
use Rattle.formula.specs.declared.byte.Link.{Link}
use Rattle.formula.specs.declared.byte.Link.TheVariants.{Weak, Strong, Loose}
use Rattle.formula.specs.Bytes.{link_of, digit_of}
use Rattle.formula.specs.Grammar.{Tree, number, cell, joined, choice, lookup, total, sum_limit, Formula, a_term, a_sum, Term, a_factor, a_product, Factor, a_number, a_cell, a_minus, a_group, a_choice, a_lookup, a_total}
use Rattle.formula.specs.Reader.{Around, whole, in_group, in_first, in_second, in_third, in_lookup, AtTerm, first_term, after_sum, AtFactor, first_factor, after_product, behind_minus, Use, as_factor, as_first, State, want, have, in_number, want_name, want_row, in_row, due, want_count, inside, hand, begin, link, named, cell_at, more_number, name_begins, row_begins, more_row, counted, step, end, ended, onward, reads, fails, run}
use Rattle.formula.proofs.Bytes.{digit_at, column_at_lem, start_digit_lem, start_column_lem, weak_no_digit, strong_no_digit, weak_not_strong}

-- one byte
pub run_step : (at : ℕ) (st : State) (b : ℕ) (bs : List ℕ) (next : State) → step at st b ≡ some next → run at st (b ∷ bs) ≡ run (at + 1) next bs
unfolding run
run_step at st b bs next e = ap (λ (o : Option State). onward at o (λ n. run (at + 1) n bs)) e

pub run_stop : (at : ℕ) (st : State) (b : ℕ) (bs : List ℕ) → step at st b ≡ none → run at st (b ∷ bs) ≡ fails at
unfolding run
run_stop at st b bs e = ap (λ (o : Option State). onward at o (λ n. run (at + 1) n bs)) e

pub run_end : (at : ℕ) (st : State) → run at st [] ≡ ended at (end st)
unfolding run
run_end at st = refl

pub run_same : (at : ℕ) (st st' : State) (b : ℕ) (bs : List ℕ) → step at st b ≡ step at st' b → run at st (b ∷ bs) ≡ run at st' (b ∷ bs)
unfolding run
run_same at st st' b bs e = ap (λ (o : Option State). onward at o (λ n. run (at + 1) n bs)) e

-- what may follow a factor, and a formula
abbrev pub NoDigit : List ℕ → Type 0
NoDigit [] = Unit {0}
NoDigit (b ∷ bs) = digit_of b ≡ none

abbrev pub NoStrong : List ℕ → Type 0
NoStrong [] = Unit {0}
NoStrong (b ∷ bs) = (o : Operator) → link_of b ≡ Strong o → ⊥

pub number_ends : (n : ℕ) (w : AtFactor) (at : ℕ) (r : List ℕ) → NoDigit r → run at (in_number n w) r ≡ run at (have (hand (number n) w)) r
unfolding run
number_ends n w at [] e = refl
number_ends n w at (b ∷ bs) e = run_same at (in_number n w) (have (hand (number n) w)) b bs (ap (more_number at n w b) e)

pub row_ends : (c r : ℕ) (u : Use) (at : ℕ) (rest : List ℕ) → NoDigit rest → run at (in_row c r u) rest ≡ run at (named u (cell_at c r)) rest
unfolding run
row_ends c r (as_factor w) at [] e = refl
row_ends c r (as_factor w) at (b ∷ bs) e = run_same at (in_row c r (as_factor w)) (named (as_factor w) (cell_at c r)) b bs (ap (more_row at c r (as_factor w) b) e)
row_ends c r (as_first m w) at [] e = refl
row_ends c r (as_first m w) at (b ∷ bs) e = run_same at (in_row c r (as_first m w)) (named (as_first m w) (cell_at c r)) b bs (ap (more_row at c r (as_first m w) b) e)

pub sum_ends : (t t' : Tree) (o : Operator) (mark : ℕ) (k : Around) (at : ℕ) (r : List ℕ) → NoStrong r
    → run at (have (record { tree = t'; wait = after_sum t o mark k })) r ≡ run at (have (record { tree = joined o mark t t'; wait = first_term k })) r
unfolding run
sum_ends t t' o mark k at [] n = refl
sum_ends t t' o mark k at (b ∷ bs) n =
    run_same at (have (record { tree = t'; wait = after_sum t o mark k })) (have (record { tree = joined o mark t t'; wait = first_term k })) b bs (go (link_of b) refl)
  where
    go : (l : Link) → link_of b ≡ l → link at (record { tree = t'; wait = after_sum t o mark k }) b l ≡ link at (record { tree = joined o mark t t'; wait = first_term k }) b l
    go (Weak p) e = refl
    go (Strong p) e = absurd (n p e)
    go Loose e = refl

-- numbers
digits_run : (n : ℕ) → n < 2 ^ 64 → 0 < n → n ≤ whole_limit → (at : ℕ) (w : AtFactor) (r : List ℕ)
    → run at (want w) (decimal n ++ r) ≡ run (at + length (decimal n)) (in_number n w) r
digits_run = decimal_by_steps (λ n ds. 0 < n → n ≤ whole_limit → (at : ℕ) (w : AtFactor) (r : List ℕ) → run at (want w) (ds ++ r) ≡ run (at + length ds) (in_number n w) r)
    (λ n l p q at w r.
    let s = start_digit_lem n l in
    let z = ne_eqb n 0 (λ e. omega arith) in
    let c = cond-false (eqb n 0) (have (hand (number 0) w)) (in_number n w) z in
    run_step at (want w) (48 + n) r (in_number n w) (ap (begin at w) s ∙ ap some c))
    (λ n ds l ih p q at w r.
    let a = append_assoc ds ((48 + n % 10) ∷ []) r in
    let i = ih (omega arith) (omega arith) at w ((48 + n % 10) ∷ r) in
    let m : (n / 10) * 10 + n % 10 ≡ n = omega arith in
    let d = digit_at (n % 10) (omega arith) in
    let h : leb ((n / 10) * 10 + n % 10) whole_limit ≡ true = le-leb _ _ (omega arith) in
    let c = cond-true (leb ((n / 10) * 10 + n % 10) whole_limit) (some (in_number ((n / 10) * 10 + n % 10) w)) none h in
    let s = run_step (at + length ds) (in_number (n / 10) w) (48 + n % 10) r (in_number ((n / 10) * 10 + n % 10) w) (ap (more_number (at + length ds) (n / 10) w (48 + n % 10)) d ∙ c) in
    let g = length-append ds ((48 + n % 10) ∷ []) in
    let e : at + length ds + 1 ≡ at + length (ds ++ (48 + n % 10) ∷ []) = omega arith in
    cc)

zero_run : (at : ℕ) (w : AtFactor) (r : List ℕ) → run at (want w) (48 ∷ r) ≡ run (at + 1) (have (hand (number 0) w)) r
zero_run at w r = run_step at (want w) 48 r (have (hand (number 0) w)) refl

number_runs : (n : ℕ) → n ≤ whole_limit → (at : ℕ) (w : AtFactor) (r : List ℕ) → NoDigit r
    → run at (want w) (decimal n ++ r) ≡ run (at + length (decimal n)) (have (hand (number n) w)) r
number_runs zero l at w r e = rw (decimal_digit 0 (omega arith)) (zero_run at w r)
number_runs (suc n) l at w r e =
    let d = digits_run (suc n) (omega arith) (omega arith) l at w r in
    let f = number_ends (suc n) w (at + length (decimal (suc n))) r e in
    cc

-- names
pub row_run : (x q : ℕ) → 0 < q → q ≤ row_count → (u : Use) (at : ℕ) (r : List ℕ) → (q < 10 → run (at + 1) (in_row x q u) r ≡ run (at + 1) (named u (cell_at x q)) r)
    → run at (want_row x u) (row_name q ++ r) ≡ run (at + length (row_name q)) (named u (cell_at x q)) r
row_run x q p l u at r n = go (ltb q 10) refl
  where
    go : (z : Bool) → ltb q 10 ≡ z → run at (want_row x u) (cond z ((48 + q) ∷ []) ((48 + q / 10) ∷ (48 + q % 10) ∷ []) ++ r)
        ≡ run (at + length (cond z ((48 + q) ∷ []) ((48 + q / 10) ∷ (48 + q % 10) ∷ []))) (named u (cell_at x q)) r
    go true e =
        let h = ltb-true q 10 e in
        let d = digit_at q h in
        let z = ne_eqb q 0 (λ f. omega arith) in
        let c = cond-false (eqb q 0) none (some (in_row x q u)) z in
        let s = run_step at (want_row x u) (48 + q) r (in_row x q u) (ap (row_begins x u) d ∙ c) in
        s ∙ n h
    go false e =
        let h = ltb-false q 10 e in
        let d = digit_at (q / 10) (omega arith) in
        let z = ne_eqb (q / 10) 0 (λ f. omega arith) in
        let c = cond-false (eqb (q / 10) 0) none (some (in_row x (q / 10) u)) z in
        let s = run_step at (want_row x u) (48 + q / 10) ((48 + q % 10) ∷ r) (in_row x (q / 10) u) (ap (row_begins x u) d ∙ c) in
        let d' = digit_at (q % 10) (omega arith) in
        let m : (q / 10) * 10 + q % 10 ≡ q = omega arith in
        let c' = cond-true (leb ((q / 10) * 10 + q % 10) row_count) (some (named u (cell_at x ((q / 10) * 10 + q % 10)))) none (le-leb _ _ (omega arith)) in
        let s' = run_step (at + 1) (in_row x (q / 10) u) (48 + q % 10) r (named u (cell_at x ((q / 10) * 10 + q % 10))) (ap (more_row (at + 1) x (q / 10) u (48 + q % 10)) d' ∙ c') in
        let k : at + 1 + 1 ≡ at + 2 = omega arith in
        cc

pub cell_is : (c : ℕ) → cell_at (c / row_count) (c % row_count + 1) ≡ c
cell_is c = omega arith

name_runs : (c : ℕ) → c < cell_count → (u : Use) (at : ℕ) (r : List ℕ) → NoDigit r
    → run at (want_name u) (name_of c ++ r) ≡ run (at + length (name_of c)) (named u c) r
name_runs c l u at r n =
    let d = column_at_lem (c / row_count) (omega arith) in
    let s = run_step at (want_name u) (65 + c / row_count) (row_name (c % row_count + 1) ++ r) (want_row (c / row_count) u) (ap (name_begins u) d) in
    let f = row_run (c / row_count) (c % row_count + 1) (omega arith) (omega arith) u (at + 1) r (λ _. row_ends (c / row_count) (c % row_count + 1) u (at + 1 + 1) r n) in
    let e = cell_is c in
    let p : at + 1 + length (row_name (c % row_count + 1)) ≡ at + length (name_of c) = omega arith in
    cc

cell_runs : (c : ℕ) → c < cell_count → (w : AtFactor) (at : ℕ) (r : List ℕ) → NoDigit r
    → run at (want w) (name_of c ++ r) ≡ run (at + length (name_of c)) (have (hand (cell c) w)) r
cell_runs c l w at r n =
    let d = start_column_lem (c / row_count) (omega arith) in
    let s = run_step at (want w) (65 + c / row_count) (row_name (c % row_count + 1) ++ r) (want_row (c / row_count) (as_factor w)) (ap (begin at w) d) in
    let f = row_run (c / row_count) (c % row_count + 1) (omega arith) (omega arith) (as_factor w) (at + 1) r (λ _. row_ends (c / row_count) (c % row_count + 1) (as_factor w) (at + 1 + 1) r n) in
    let e = cell_is c in
    let p : at + 1 + length (row_name (c % row_count + 1)) ≡ at + length (name_of c) = omega arith in
    cc

no_close : (o : Operator) → link_of 41 ≡ Strong o → ⊥
no_close o e = let z : ◌≡◌ {A = ℕ} 0 1 = cc in omega arith

no_comma : (o : Operator) → link_of 44 ≡ Strong o → ⊥
no_comma o e = let z : ◌≡◌ {A = ℕ} 0 1 = cc in omega arith

pub count_good : (mark c d : ℕ) (w : AtFactor) → 0 < d → d ≤ sum_limit → c + d ≤ cell_count
    → counted mark c w (digit_of (48 + d)) ≡ some (due 41 [] (have (hand (total mark c d) w)))
count_good mark c d w l m h = ap (counted mark c w) (digit_at d (omega arith)) ∙
    (cond-true (ltb 0 d) _ _ (lt-ltb 0 d l) ∙ (cond-true (leb d sum_limit) _ _ (le-leb d sum_limit m) ∙ cond-true (leb (c + d) cell_count) _ _ (le-leb (c + d) cell_count h)))

-- formulas, terms and factors
mutual
  pub formula_runs : {at : ℕ} {s : List ℕ} {t : Tree} → Formula at s t → (k : Around) (r : List ℕ) → NoDigit r → NoStrong r
      → run at (inside k) (s ++ r) ≡ run (at + length s) (have (record { tree = t; wait = first_term k })) r
  formula_runs {at} (a_term f) k r e n = term_runs f (first_term k) r e
  formula_runs {at} (a_sum {s = s} {s' = s'} {t = t} {t' = t'} b o x f g) k r e n =
      let a = append_assoc s (b ∷ s') r in
      let i = formula_runs f k (b ∷ (s' ++ r)) (weak_no_digit b o x) (λ p q. weak_not_strong b o p x q) in
      let j = run_step (at + length s) (have (record { tree = t; wait = first_term k })) b (s' ++ r) (want (first_factor (after_sum t o (at + length s) k)))
      (ap (link (at + length s) (record { tree = t; wait = first_term k }) b) x) in
      let h = term_runs g (after_sum t o (at + length s) k) r e in
      let m = sum_ends t t' o (at + length s) k (at + length s + 1 + length s') r n in
      let l = length-append s (b ∷ s') in
      let p : at + length s + 1 + length s' ≡ at + length (s ++ b ∷ s') = omega arith in
      cc

  pub term_runs : {at : ℕ} {s : List ℕ} {t : Tree} → Term at s t → (w : AtTerm) (r : List ℕ) → NoDigit r
      → run at (want (first_factor w)) (s ++ r) ≡ run (at + length s) (have (record { tree = t; wait = w })) r
  term_runs {at} (a_factor f) w r e = factor_runs f (first_factor w) r e
  term_runs {at} (a_product {s = s} {s' = s'} {t = t} {t' = t'} b o x f g) w r e =
      let a = append_assoc s (b ∷ s') r in
      let i = term_runs f w (b ∷ (s' ++ r)) (strong_no_digit b o x) in
      let j = run_step (at + length s) (have (record { tree = t; wait = w })) b (s' ++ r) (want (after_product t o (at + length s) w))
      (ap (link (at + length s) (record { tree = t; wait = w }) b) x) in
      let k = factor_runs g (after_product t o (at + length s) w) r e in
      let l = length-append s (b ∷ s') in
      let p : at + length s + 1 + length s' ≡ at + length (s ++ b ∷ s') = omega arith in
      cc

  pub factor_runs : {at : ℕ} {s : List ℕ} {t : Tree} → Factor at s t → (w : AtFactor) (r : List ℕ) → NoDigit r
      → run at (want w) (s ++ r) ≡ run (at + length s) (have (hand t w)) r
  factor_runs {at} (a_number n l) w r e = number_runs n l at w r e
  factor_runs {at} (a_cell c l) w r e = cell_runs c l w at r e
  factor_runs {at} (a_minus {s = s} {t = t} f) w r e =
      let i = run_step at (want w) 45 (s ++ r) (want (behind_minus w)) refl in
      let j = factor_runs f (behind_minus w) r e in
      let p : at + 1 + length s ≡ at + length (45 ∷ s) = omega arith in
      cc
  factor_runs {at} (a_group {s = s} {t = t} f) w r e =
      let a = append_assoc s (41 ∷ []) r in
      let i = run_step at (want w) 40 (s ++ 41 ∷ r) (inside (in_group w)) refl in
      let j = formula_runs f (in_group w) (41 ∷ r) refl (λ o q. no_close o q) in
      let k = run_step (at + 1 + length s) (have (record { tree = t; wait = first_term (in_group w) })) 41 r (have (hand t w)) refl in
      let g = length-append s (41 ∷ []) in
      let p : at + 1 + length s + 1 ≡ at + length (40 ∷ (s ++ 41 ∷ [])) = omega arith in
      cc
  factor_runs {at} (a_choice {s = s} {s' = s'} {s'' = s''} {t = t} {t' = t'} {t'' = t''} f f' f'') w r e =
      let a = append_assoc s (44 ∷ (s' ++ 44 ∷ (s'' ++ 41 ∷ []))) r in
      let a' = append_assoc s' (44 ∷ (s'' ++ 41 ∷ [])) r in
      let a'' = append_assoc s'' (41 ∷ []) r in
      let x = s ++ 44 ∷ (s' ++ 44 ∷ (s'' ++ 41 ∷ r)) in
      let i = run_step at (want w) 105 (102 ∷ 40 ∷ x) (due 102 (40 ∷ []) (inside (in_first w))) refl in
      let i' = run_step (at + 1) (due 102 (40 ∷ []) (inside (in_first w))) 102 (40 ∷ x) (due 40 [] (inside (in_first w))) refl in
      let i'' = run_step (at + 1 + 1) (due 40 [] (inside (in_first w))) 40 x (inside (in_first w)) refl in
      let p : at + 1 + 1 + 1 ≡ at + 3 = omega arith in
      let j = formula_runs f (in_first w) (44 ∷ (s' ++ 44 ∷ (s'' ++ 41 ∷ r))) refl (λ o q. no_comma o q) in
      let j₁ = run_step (at + 3 + length s) (have (record { tree = t; wait = first_term (in_first w) })) 44 (s' ++ 44 ∷ (s'' ++ 41 ∷ r)) (inside (in_second t w)) refl in
      let k = formula_runs f' (in_second t w) (44 ∷ (s'' ++ 41 ∷ r)) refl (λ o q. no_comma o q) in
      let k₁ = run_step (at + 3 + length s + 1 + length s') (have (record { tree = t'; wait = first_term (in_second t w) })) 44 (s'' ++ 41 ∷ r) (inside (in_third t t' w)) refl in
      let l = formula_runs f'' (in_third t t' w) (41 ∷ r) refl (λ o q. no_close o q) in
      let l₁ = run_step (at + 3 + length s + 1 + length s' + 1 + length s'') (have (record { tree = t''; wait = first_term (in_third t t' w) })) 41 r (have (hand (choice t t' t'') w)) refl in
      let g = length-append s (44 ∷ (s' ++ 44 ∷ (s'' ++ 41 ∷ []))) in
      let g' = length-append s' (44 ∷ (s'' ++ 41 ∷ [])) in
      let g'' = length-append s'' (41 ∷ []) in
      let q : at + 3 + length s + 1 + length s' + 1 + length s'' + 1 ≡ at + length (105 ∷ 102 ∷ 40 ∷ (s ++ 44 ∷ (s' ++ 44 ∷ (s'' ++ 41 ∷ [])))) = omega arith in
      cc
  factor_runs {at} (a_lookup {s = s} {t = t} f) w r e =
      let a = append_assoc s (41 ∷ []) r in
      let x = s ++ 41 ∷ r in
      let i = run_step at (want w) 97 (116 ∷ 40 ∷ x) (due 116 (40 ∷ []) (inside (in_lookup at w))) refl in
      let i' = run_step (at + 1) (due 116 (40 ∷ []) (inside (in_lookup at w))) 116 (40 ∷ x) (due 40 [] (inside (in_lookup at w))) refl in
      let i'' = run_step (at + 1 + 1) (due 40 [] (inside (in_lookup at w))) 40 x (inside (in_lookup at w)) refl in
      let p : at + 1 + 1 + 1 ≡ at + 3 = omega arith in
      let j = formula_runs f (in_lookup at w) (41 ∷ r) refl (λ o q. no_close o q) in
      let k = run_step (at + 3 + length s) (have (record { tree = t; wait = first_term (in_lookup at w) })) 41 r (have (hand (lookup at t) w)) refl in
      let g = length-append s (41 ∷ []) in
      let q : at + 3 + length s + 1 ≡ at + length (97 ∷ 116 ∷ 40 ∷ (s ++ 41 ∷ [])) = omega arith in
      cc
  factor_runs {at} (a_total c d l m h) w r e =
      let a = append_assoc (name_of c) (44 ∷ (48 + d) ∷ 41 ∷ []) r in
      let x = name_of c ++ 44 ∷ (48 + d) ∷ 41 ∷ r in
      let u = as_first at w in
      let i = run_step at (want w) 115 (117 ∷ 109 ∷ 40 ∷ x) (due 117 (109 ∷ 40 ∷ []) (want_name (as_first at w))) refl in
      let i₁ = run_step (at + 1) (due 117 (109 ∷ 40 ∷ []) (want_name (as_first at w))) 117 (109 ∷ 40 ∷ x) (due 109 (40 ∷ []) (want_name (as_first at w))) refl in
      let i₂ = run_step (at + 1 + 1) (due 109 (40 ∷ []) (want_name (as_first at w))) 109 (40 ∷ x) (due 40 [] (want_name (as_first at w))) refl in
      let i₃ = run_step (at + 1 + 1 + 1) (due 40 [] (want_name (as_first at w))) 40 x (want_name (as_first at w)) refl in
      let y = at + 1 + 1 + 1 + 1 + length (name_of c) in
      let j = name_runs c (omega arith) (as_first at w) (at + 1 + 1 + 1 + 1) (44 ∷ (48 + d) ∷ 41 ∷ r) refl in
      let j₁ = run_step y (due 44 [] (want_count at c w)) 44 ((48 + d) ∷ 41 ∷ r) (want_count at c w) refl in
      let j₂ = run_step (y + 1) (want_count at c w) (48 + d) (41 ∷ r) (due 41 [] (have (hand (total at c d) w))) (count_good at c d w l m h) in
      let j₃ = run_step (y + 1 + 1) (due 41 [] (have (hand (total at c d) w))) 41 r (have (hand (total at c d) w)) refl in
      let g = length-append (name_of c) (44 ∷ (48 + d) ∷ 41 ∷ []) in
      let q : y + 1 + 1 + 1 ≡ at + length (115 ∷ 117 ∷ 109 ∷ 40 ∷ (name_of c ++ 44 ∷ (48 + d) ∷ 41 ∷ [])) = omega arith in
      cc

-- a formula is read to its tree
pub whole_reads : (text : List ℕ) (t : Tree) → Formula 0 text t → run 0 (inside whole) text ≡ reads t
whole_reads text t f =
    let i = formula_runs f whole [] tt tt in
    let a = append-nil text in
    let e = run_end (0 + length text) (have (record { tree = t; wait = first_term whole })) in
    cc
