-- What the readers of words, numbers, names and counts tell, in the words of the reader of formulas. Assumes nothing.
use Rattle.std.proofs.Common.{◌≡◌, ℕ, zero, suc, ◌+◌, ◌*◌, ◌/◌, ◌%◌, ◌<◌, ◌≤◌, true, false, eqb, ltb, leb, List, [], ◌∷◌, ◌++◌, length, get_or, drop, MatchResult, Some, None, Ok, Err, Option as Maybe, Result, sym, refl, ap, ◌∙◌, subst, ⊎_elim, arith}
use mathlib.Core.Option.{Option, none, some}
use Rattle.std.proofs.lemmas.Bool.Decides.{nat_tests}
use Rattle.std.proofs.lemmas.Bool.{cases_lt, cond-true, cond-false, cond_both, eq-eqb, lt-leb, ltb-true, ltb-false, leb-true, eqb-true, and_parts, and_cases}
use Rattle.std.proofs.lemmas.List.{drop_more, drop_all, get_or_past, length-drop, length-append}
use Rattle.std.proofs.lemmas.Result.{MatchResult-weaker}
use Rattle.interfaces.specs.declared.cell.Cell.{Cell}
use Rattle.interfaces.specs.Cells.{cell_count, number_of}
use Rattle.names.specs.Names.{byte_stands, row_count, column_count, row_name, name_of, NameAt, NoNameAt, left_at, LeftAt}
use Rattle.whole.specs.declared.Whole.{Whole}
use Rattle.whole.specs.Whole.{whole_limit}
use Rattle.formula.specs.declared.byte.Link.TheVariants.{Loose}
use Rattle.formula.specs.declared.byte.Start.TheVariants.{Digit}
use Rattle.formula.specs.Bytes.{link_of, digit_of, column_of, start_of}
use Rattle.formula.specs.Grammar.{Tree, number, cell, sum_limit}
use Rattle.formula.specs.Reader.{Around, whole, in_group, in_first, in_second, in_third, in_lookup, first_term, AtFactor, first_factor, Use, as_factor, as_first, State, want, have, in_number, want_name, want_row, in_row, due, want_count, due_all, closed, around, hand, begin, shut, link, named, cell_at, more_number, name_begins, row_begins, more_row, counted, step, end, Reading, fails, ended, onward, run}
use Rattle.formula.proofs.Bytes.{digit_at, digit_is, column_is, column_at_lem, start_digit_is}
use Rattle.formula.proofs.Runs.{run_step, run_stop, run_end, NoDigit, number_ends, row_ends, row_run, cell_is}
use Rattle.formula.proofs.Sound.{name_is, name_long}
use Rattle.sheet_parts.specs.Tokens.{spelled, whole_of, one_digit, digits_from, number_from, number_in, name_end_lem, NoName, block_at, count_from, count_in, run_at, Failed, Met, Missed, Spelled, NumberRead, NameRead, CountRead, NoCount}
use Rattle.sheet_parts.proofs.Tokens.{byte_within, digit_within}

pub step_at_lem : (text : List ℕ) (at : ℕ) (st next : State) → at < length text → step at st (get_or text at 0) ≡ some next → run_at text at st ≡ run_at text (at + 1) next
step_at_lem text at st next l e = ap (run at st) (drop_more text at 0 l) ∙ run_step at st (get_or text at 0) (drop (at + 1) text) next e

pub stop_at : (text : List ℕ) (at : ℕ) (st : State) → step at st (get_or text at 0) ≡ none → end st ≡ none → run_at text at st ≡ fails at
stop_at text at st e f =
    ⊎_elim (λ l. ap (run at st) (drop_more text at 0 l) ∙ run_stop at st (get_or text at 0) (drop (at + 1) text) e)
    (λ l. ap (run at st) (drop_all at text l) ∙ (run_end at st ∙ ap (λ o. ended at o) f)) (cases_lt at (length text))

pub inside_text : (text : List ℕ) (at : ℕ) → (get_or text at 0 ≡ 0 → ⊥) → at < length text
inside_text text at n = byte_within text at n

pub no_digit_at : (text : List ℕ) (at : ℕ) → digit_of (get_or text at 0) ≡ none → NoDigit (drop at text)
no_digit_at text at e = ⊎_elim (λ l. rw (drop_more text at 0 l) e) (λ l. rw (drop_all at text l) tt) (cases_lt at (length text))

-- a text goes wrong no later than at its end
ended_at : (at : ℕ) (o : Option Tree) (p : ℕ) → ended at o ≡ fails p → p ≤ at
ended_at at none p e = let q : at ≡ p = cc in omega arith
ended_at at (some t) p e = absurd (let z : ◌≡◌ {A = ℕ} 0 1 = cc in omega arith)

onward_within : (at n : ℕ) (o : Option State) (f : State → Reading) (p : ℕ) → ((st : State) → f st ≡ fails p → p ≤ n) → at ≤ n → onward at o f ≡ fails p → p ≤ n
onward_within at n none f p h l e = let q : at ≡ p = cc in omega arith
onward_within at n (some st) f p h l e = h st e

pub fails_within : (xs : List ℕ) (at : ℕ) (st : State) (p : ℕ) → run at st xs ≡ fails p → p ≤ at + length xs
unfolding run
fails_within [] at st p e = let l = ended_at at (end st) p e in omega arith
fails_within (b ∷ bs) at st p e = onward_within at (at + length (b ∷ bs)) (step at st b) (λ next. run (at + 1) next bs) p
    (λ next f. let l = fails_within bs (at + 1) next p f in omega arith) (omega arith) e

pub failed_at : {X : Type 0} (start : X → State) (text : List ℕ) (at place : ℕ) → X → at ≤ length text → ((x : X) → run_at text at (start x) ≡ fails place) → Failed start text at place
failed_at start text at place x l s = record {
  stops = s;
  fits = let w = fails_within (drop at text) at (start x) place (s x) in let d = length-drop at text in omega arith;
}

-- words
abbrev SpelledAs : List ℕ → ℕ → List ℕ → Result ℕ ℕ → Type 0
SpelledAs text at word r = MatchResult r (λ next. Spelled text at word next) (λ place. Failed (due_all word) text at place)

word_step : (text : List ℕ) (at b : ℕ) (bs : List ℕ) → byte_stands text at b ≡ true → (st : State) → run_at text at (due b bs st) ≡ run_at text (at + 1) (due_all bs st)
word_step text at b bs e st =
    let p = and_parts _ _ e in
    step_at_lem text at (due b bs st) (due_all bs st) (ltb-true at (length text) p.0) (cond-true (eqb (get_or text at 0) b) (some (due_all bs st)) none p.1)

word_within : (text : List ℕ) (at b : ℕ) → byte_stands text at b ≡ true → at + 1 ≤ length text
word_within text at b e = let p = and_parts (ltb at (length text)) (eqb (get_or text at 0) b) e in let l = ltb-true at (length text) p.0 in omega arith

word_front : (text : List ℕ) (at b : ℕ) (bs : List ℕ) → byte_stands text at b ≡ true → (r : Result ℕ ℕ) → SpelledAs text (at + 1) bs r → SpelledAs text at (b ∷ bs) r
word_front text at b bs e (Ok next) h =
    let n = h.next_is in
    record { runs = λ st. word_step text at b bs e st ∙ h.runs st; next_is = omega arith; fits = h.fits }
word_front text at b bs e (Err place) h = record { stops = λ st. word_step text at b bs e st ∙ h.stops st; fits = h.fits }

word_stop : (text : List ℕ) (at b : ℕ) (bs : List ℕ) → byte_stands text at b ≡ false → (st : State) → run_at text at (due b bs st) ≡ fails at
word_stop text at b bs e st = ⊎_elim
    (λ l. ap (run at (due b bs st)) (drop_all at text (ltb-false at (length text) l)) ∙ run_end at (due b bs st))
    (λ n. stop_at text at (due b bs st) (cond-false (eqb (get_or text at 0) b) (some (due_all bs st)) none n) refl)
    (and_cases _ _ e)

spelled_run : (text word : List ℕ) (at : ℕ) → at ≤ length text → SpelledAs text at word (spelled text at word)
spelled_run text [] at l = record { runs = λ st. refl; next_is = omega arith; fits = l }
spelled_run text (b ∷ bs) at l = cond_both (byte_stands text at b) (spelled text (at + 1) bs) (Err at) (SpelledAs text at (b ∷ bs))
    (λ e. word_front text at b bs e (spelled text (at + 1) bs) (spelled_run text bs (at + 1) (word_within text at b e)))
    (λ e. record { stops = word_stop text at b bs e; fits = l })

pub spelled_means : (text : List ℕ) (at : ℕ) (word : List ℕ) (r : Result ℕ ℕ) → r ≡ spelled text at word → at ≤ length text
    → MatchResult r (λ next. Spelled text at word next) (λ place. Failed (due_all word) text at place)
spelled_means text at word r e l = subst (SpelledAs text at word) (sym e) (spelled_run text word at l)

pub spelled_ok : (text : List ℕ) (at : ℕ) (word : List ℕ) (next : ℕ) → at ≤ length text → Ok next ≡ spelled text at word → Spelled text at word next
spelled_ok text at word next l e = spelled_means text at word (Ok next) e l

pub spelled_err : (text : List ℕ) (at : ℕ) (word : List ℕ) (place : ℕ) → at ≤ length text → Err place ≡ spelled text at word → Failed (due_all word) text at place
spelled_err text at word place l e = spelled_means text at word (Err place) e l

-- one byte
abbrev MetAs : List ℕ → ℕ → ℕ → Result ℕ ℕ → Type 0
MetAs text at byte r = MatchResult r (λ next. Met text at byte next) (λ place. Missed text at byte place)

met_run : (text : List ℕ) (at byte : ℕ) → 0 < byte → MetAs text at byte (spelled text at (byte ∷ []))
met_run text at byte z = cond_both (byte_stands text at byte) (Ok (at + 1)) (Err at) (MetAs text at byte)
    (λ e. let p = and_parts _ _ e in record { next_is = refl; within = ltb-true at (length text) p.0; is = eqb-true _ _ p.1 })
    (λ e. record {
      place_is = refl;
      is_not = λ i. ⊎_elim
          (λ l. let g = get_or_past text at 0 (ltb-false at (length text) l) in omega arith)
          (λ n. let m = eq-eqb (get_or text at 0) byte i in let y : ◌≡◌ {A = ℕ} 0 1 = cc in omega arith) (and_cases _ _ e);
    })

pub met_means : (text : List ℕ) (at byte : ℕ) (r : Result ℕ ℕ) → r ≡ spelled text at (byte ∷ []) → 0 < byte → MatchResult r (λ next. Met text at byte next) (λ place. Missed text at byte place)
met_means text at byte r e z = subst (MetAs text at byte) (sym e) (met_run text at byte z)

pub met : (text : List ℕ) (at byte next : ℕ) → 0 < byte → Ok next ≡ spelled text at (byte ∷ []) → Met text at byte next
met text at byte next z e = met_means text at byte (Ok next) e z

pub missed : (text : List ℕ) (at byte place : ℕ) → 0 < byte → Err place ≡ spelled text at (byte ∷ []) → Missed text at byte place
missed text at byte place z e = met_means text at byte (Err place) e z

-- numbers
record DigitsRead (text : List ℕ) (at n : ℕ) (v : Whole) (next : ℕ) : Type 0 where
  pub m : ℕ
  pub value_is : v ≡ whole_of m
  pub limit : m ≤ whole_limit
  pub runs : (w : AtFactor) → run_at text at (in_number n w) ≡ run_at text next (have (hand (number m) w))
  pub onward : at ≤ next
  pub fits : at ≤ length text → next ≤ length text

abbrev DigitsAs : List ℕ → ℕ → ℕ → Result (Whole × ℕ) ℕ → Type 0
DigitsAs text at n (Ok p) = DigitsRead text at n p.0 p.1
DigitsAs text at n (Err place) = (w : AtFactor) → run_at text at (in_number n w) ≡ fails place

digits_front : (text : List ℕ) (at n m : ℕ) → at < length text → ((w : AtFactor) → run_at text at (in_number n w) ≡ run_at text (at + 1) (in_number m w))
    → (r : Result (Whole × ℕ) ℕ) → DigitsAs text (at + 1) m r → DigitsAs text at n r
digits_front text at n m l s (Ok p) h =
    let o = h.onward in let f = h.fits (omega arith) in
    record { m = h.m; value_is = h.value_is; limit = h.limit; runs = λ w. s w ∙ h.runs w; onward = omega arith; fits = λ i. f }
digits_front text at n m l s (Err place) h = λ w. s w ∙ h w

digits_end : (text : List ℕ) (at n : ℕ) → n ≤ whole_limit → NoDigit (drop at text) → DigitsRead text at n (whole_of n) at
digits_end text at n l d = record { m = n; value_is = refl; limit = l; runs = λ w. number_ends n w at (drop at text) d; onward = omega arith; fits = λ i. i }

after_cons : (text bs : List ℕ) (b at : ℕ) → drop at text ≡ b ∷ bs → drop (at + 1) text ≡ bs
after_cons text bs b at d =
    let i = ap length d in let j = length-drop at text in
    let k = drop_more text at 0 (omega arith) in cc

digits_one : (text bs : List ℕ) (b at n : ℕ) → drop at text ≡ b ∷ bs → n ≤ whole_limit → (z : Option ℕ) → digit_of b ≡ z
    → ((m : ℕ) → m ≤ whole_limit → DigitsAs text (at + 1) m (digits_from (at + 1) m bs)) → DigitsAs text at n (one_digit at n z (λ m. digits_from (at + 1) m bs))
digits_one text bs b at n d l none e more = digits_end text at n l (rw d e)
digits_one text bs b at n d l (some k) e more = cond_both (leb (n * 10 + k) whole_limit) (digits_from (at + 1) (n * 10 + k) bs) (Err at) (DigitsAs text at n)
    (λ y. digits_front text at n (n * 10 + k) here (λ w. ap (run at (in_number n w)) d
    ∙ (run_step at (in_number n w) b bs (in_number (n * 10 + k) w) (ap (more_number at n w b) e ∙ cond-true (leb (n * 10 + k) whole_limit) (some (in_number (n * 10 + k) w)) none y)
    ∙ ap (run (at + 1) (in_number (n * 10 + k) w)) (sym after))) (digits_from (at + 1) (n * 10 + k) bs) (more (n * 10 + k) (leb-true (n * 10 + k) whole_limit y)))
    (λ y w. ap (run at (in_number n w)) d ∙ run_stop at (in_number n w) b bs (ap (more_number at n w b) e ∙ cond-false (leb (n * 10 + k) whole_limit) (some (in_number (n * 10 + k) w)) none y))
  where
    here : at < length text
    here = let i = ap length d in let j = length-drop at text in omega arith

    after : drop (at + 1) text ≡ bs
    after = after_cons text bs b at d

digits_run : (text xs : List ℕ) (at n : ℕ) → drop at text ≡ xs → n ≤ whole_limit → DigitsAs text at n (digits_from at n xs)
digits_run text [] at n d l = digits_end text at n l (rw d tt)
digits_run text (b ∷ bs) at n d l = digits_one text bs b at n d l (digit_of b) refl (λ m k. digits_run text bs (at + 1) m (after_cons text bs b at d) k)

abbrev NumberAs : List ℕ → ℕ → Result (Whole × ℕ) ℕ → Type 0
NumberAs text at r = MatchResult r (λ p. (n : ℕ) × (p.0 ≡ whole_of n) × NumberRead text at n p.1) (λ place. Failed want text at place)

number_front : (text : List ℕ) (at d : ℕ) → at < length text → ((w : AtFactor) → run_at text at (want w) ≡ run_at text (at + 1) (in_number d w))
    → (r : Result (Whole × ℕ) ℕ) → DigitsAs text (at + 1) d r → NumberAs text at r
number_front text at d l s (Ok p) h =
    let o = h.onward in let f = h.fits (omega arith) in
    (h.m, h.value_is, record { limit = h.limit; runs = λ w. s w ∙ h.runs w; onward = omega arith; fits = f })
number_front text at d l s (Err place) h = failed_at want text at place (first_factor (first_term whole)) (omega arith) (λ w. s w ∙ h w)

number_run : (text : List ℕ) (at d : ℕ) → start_of (get_or text at 0) ≡ Digit d → NumberAs text at (number_in text at)
number_run text at d e =
    let h = start_digit_is (get_or text at 0) d e in
    let h₁ = h.1 in let h₀ = h.0 in
    let l = inside_text text at (λ z. omega arith) in
    let f = ap digit_of h₁ ∙ digit_at d h₀ in
    subst (λ o. NumberAs text at (number_from at o (drop (at + 1) text))) (sym f)
    (cond_both (eqb d 0) (Ok (whole_of 0, at + 1)) (digits_from (at + 1) d (drop (at + 1) text)) (NumberAs text at)
    (λ z. (
      0,
      refl,
      record {
        limit = omega arith;
        onward = omega arith;
        fits = omega arith;
        runs = λ w. step_at_lem text at (want w) (have (hand (number 0) w)) l (ap (begin at w) e ∙ ap some (cond-true (eqb d 0) (have (hand (number 0) w)) (in_number d w) z));
      },
    ))
    (λ z. number_front text at d l (λ w. step_at_lem text at (want w) (in_number d w) l (ap (begin at w) e ∙ ap some (cond-false (eqb d 0) (have (hand (number 0) w)) (in_number d w) z)))
    (digits_from (at + 1) d (drop (at + 1) text)) (digits_run text (drop (at + 1) text) (at + 1) d refl (omega arith))))

pub number_means : (text : List ℕ) (at : ℕ) (r : Result (Whole × ℕ) ℕ) → r ≡ number_in text at → (d : ℕ) → start_of (get_or text at 0) ≡ Digit d
    → MatchResult r (λ p. (n : ℕ) × (p.0 ≡ whole_of n) × NumberRead text at n p.1) (λ place. Failed want text at place)
number_means text at r e d s = subst (NumberAs text at) (sym e) (number_run text at d s)

pub number_ok : (text : List ℕ) (at d : ℕ) (v : Whole) (next : ℕ) → start_of (get_or text at 0) ≡ Digit d → Ok (v, next) ≡ number_in text at → (n : ℕ) × (v ≡ whole_of n) × NumberRead text at n next
number_ok text at d v next s e = number_means text at (Ok (v, next)) e d s

pub number_err : (text : List ℕ) (at d place : ℕ) → start_of (get_or text at 0) ≡ Digit d → Err place ≡ number_in text at → Failed want text at place
number_err text at d place s e = number_means text at (Err place) e d s

-- counts
abbrev CountAs : List ℕ → ℕ → ℕ → Result (ℕ × ℕ) ℕ → Type 0
CountAs text at c r = MatchResult r (λ p. (p.0 ≡ c) × CountRead text at c p.1) (λ place. NoCount text at c place)

abbrev BlockAs : List ℕ → ℕ → ℕ → Maybe (ℕ × ℕ) → Type 0
BlockAs text at c m = CountAs text at c (block_at at m)

count_by : (text : List ℕ) (at c : ℕ) (z : Option ℕ) → digit_of (get_or text at 0) ≡ z → CountAs text at c (count_from at c z)
count_by text at c none e = record { place_is = refl; refused = λ mark w. ap (counted mark c w) e }
count_by text at c (some d) e = cond_both (ltb 0 d) _ None (BlockAs text at c)
    (λ x. cond_both (leb d sum_limit) _ None (BlockAs text at c)
    (λ y. cond_both (leb (c + d) cell_count) (Some (c, d)) None (BlockAs text at c)
    (λ z. (refl, record { within = digit_within text at d e; is = e; some_cell = ltb-true 0 d x; few = leb-true d sum_limit y; last = leb-true (c + d) cell_count z }))
    (λ z. none_of (λ mark w. cond-true (ltb 0 d) _ none x ∙ (cond-true (leb d sum_limit) _ none y ∙ cond-false (leb (c + d) cell_count) _ none z))))
    (λ y. none_of (λ mark w. cond-true (ltb 0 d) _ none x ∙ cond-false (leb d sum_limit) _ none y)))
    (λ x. none_of (λ mark w. cond-false (ltb 0 d) _ none x))
  where
    none_of : ((mark : ℕ) (w : AtFactor) → counted mark c w (some d) ≡ none) → NoCount text at c at
    none_of f = record { place_is = refl; refused = λ mark w. ap (counted mark c w) e ∙ f mark w }

pub count_ok : (text : List ℕ) (at c first count : ℕ) → Ok (first, count) ≡ count_in text at c → (first ≡ c) × CountRead text at c count
count_ok text at c first count e = subst (CountAs text at c) (sym e) (count_by text at c (digit_of (get_or text at 0)) refl)

pub count_err : (text : List ℕ) (at c place : ℕ) → Err place ≡ count_in text at c → NoCount text at c place
count_err text at c place e = subst (CountAs text at c) (sym e) (count_by text at c (digit_of (get_or text at 0)) refl)

-- names
digit_loose : (b d : ℕ) → digit_of b ≡ some d → link_of b ≡ Loose
digit_loose b d e = grind (arith, nat_tests)

digit_no : (b d c : ℕ) → digit_of b ≡ some d → c < 48 → eqb b c ≡ false
digit_no b d c e l = grind (arith, nat_tests)

shut_digit : (t : Tree) (k : Around) (b d : ℕ) → digit_of b ≡ some d → shut t k b ≡ none
shut_digit t whole b d e = refl
shut_digit t (in_group w) b d e = cond-false (eqb b 41) _ none (digit_no b d 41 e (omega arith))
shut_digit t (in_first w) b d e = cond-false (eqb b 44) _ none (digit_no b d 44 e (omega arith))
shut_digit t (in_second u w) b d e = cond-false (eqb b 44) _ none (digit_no b d 44 e (omega arith))
shut_digit t (in_third u v w) b d e = cond-false (eqb b 41) _ none (digit_no b d 41 e (omega arith))
shut_digit t (in_lookup m w) b d e = cond-false (eqb b 41) _ none (digit_no b d 41 e (omega arith))

named_digit : (at : ℕ) (u : Use) (c b d : ℕ) → digit_of b ≡ some d → step at (named u c) b ≡ none
named_digit at (as_factor w) c b d e =
    ap (link at (hand (cell c) w) b) (digit_loose b d e) ∙ shut_digit (closed (hand (cell c) w).tree (hand (cell c) w).wait) (around (hand (cell c) w).wait) b d e
named_digit at (as_first m w) c b d e = cond-false (eqb b 44) (some (want_count m c w)) none (digit_no b d 44 e (omega arith))

-- the longest name ends here: another digit goes wrong, whether it belongs to the row or not
row_stops : (text : List ℕ) (at x q : ℕ) (u : Use) → ((d : ℕ) → digit_of (get_or text at 0) ≡ some d → row_count < q * 10 + d) → run_at text at (in_row x q u) ≡ run_at text at (named u (cell_at x q))
row_stops text at x q u h = go (digit_of (get_or text at 0)) refl
  where
    go : (z : Option ℕ) → digit_of (get_or text at 0) ≡ z → run_at text at (in_row x q u) ≡ run_at text at (named u (cell_at x q))
    go none e = row_ends x q u at (drop at text) (no_digit_at text at e)
    go (some d) e =
        let l = digit_within text at d e in
        let i = ap (run at (in_row x q u)) (drop_more text at 0 l) in
        let j = run_stop at (in_row x q u) (get_or text at 0) (drop (at + 1) text)
        (ap (more_row at x q u (get_or text at 0)) e ∙ cond-false (leb (q * 10 + d) row_count) (some (named u (cell_at x (q * 10 + d)))) none (lt-leb (q * 10 + d) row_count (h d e))) in
        let i' = ap (run at (named u (cell_at x q))) (drop_more text at 0 l) in
        let j' = run_stop at (named u (cell_at x q)) (get_or text at 0) (drop (at + 1) text) (named_digit at u (cell_at x q) (get_or text at 0) d e) in
        i ∙ (j ∙ sym (i' ∙ j'))

-- a short name is the longest only if no digit of a longer one follows
short_name : (n : ℕ) → n < cell_count → n % row_count + 1 < 10 → name_of n ≡ (65 + n / row_count) ∷ (48 + (n % row_count + 1)) ∷ []
short_name n l h =
    let i = name_is (n / row_count) (n % row_count + 1) (omega arith) (omega arith) h in
    let e = cell_is n in ap name_of (sym e) ∙ i

longer : (text : List ℕ) (at n next d : ℕ) → NameAt text at n next → n % row_count + 1 < 10 → digit_of (get_or text next 0) ≡ some d → row_count < (n % row_count + 1) * 10 + d
longer text at n next d h l e = ⊎_elim (λ g. absurd (no g)) (λ g. g) (cases_lt ((n % row_count + 1) * 10 + d) (row_count + 1))
  where
    no : (n % row_count + 1) * 10 + d < row_count + 1 → ⊥
    no g =
        let w = h.within in
        let b = digit_is (get_or text next 0) d e in let b₁ = b.1 in let b₀ = b.0 in
        let s = short_name n w l in
        let k = drop_more text next 0 (digit_within text next d e) in
        let m = name_long (n / row_count) (n % row_count + 1) d (omega arith) (omega arith) b₀ (omega arith) in
        let r = h.reads in
        let q : drop at text ≡ name_of (cell_at (n / row_count) ((n % row_count + 1) * 10 + d)) ++ drop (next + 1) text = cc in
        let z = h.longest (cell_at (n / row_count) ((n % row_count + 1) * 10 + d)) (drop (next + 1) text) (omega arith) q in
        let y = ap length m in
        let x = ap length s in
        omega arith

pub name_read : (text : List ℕ) (at n next : ℕ) → NameAt text at n next → NameRead text at n next
name_read text at n next h =
    let w = h.within in
    let r = h.reads in
    let a = h.next_is in
    let ln = ap length r in
    let la = length-append (name_of n) (drop next text) in
    let ld = length-drop at text in
    let le = length-drop next text in
    record {
      runs = λ u. runs u w r a;
      within = w;
      onward = omega arith;
      fits = omega arith;
    }
  where
    runs : (u : Use) → n < cell_count → drop at text ≡ name_of n ++ drop next text → next ≡ at + length (name_of n) → run_at text at (want_name u) ≡ run_at text next (named u n)
    runs u w r a =
        let d = column_at_lem (n / row_count) (omega arith) in
        let s = run_step at (want_name u) (65 + n / row_count) (row_name (n % row_count + 1) ++ drop next text) (want_row (n / row_count) u) (ap (name_begins u) d) in
        let e = cell_is n in
        let f = row_run (n / row_count) (n % row_count + 1) (omega arith) (omega arith) u (at + 1) (drop next text)
        (λ l. let z = ap length (short_name n w l) in
        let p : at + 1 + 1 ≡ next = omega arith in
        ap (λ m. run m (in_row (n / row_count) (n % row_count + 1) u) (drop next text)) p
        ∙ (row_stops text next (n / row_count) (n % row_count + 1) u (λ x y. longer text at n next x h l y)
        ∙ ap (λ m. run m (named u (cell_at (n / row_count) (n % row_count + 1))) (drop next text)) (sym p))) in
        let p : at + 1 + length (row_name (n % row_count + 1)) ≡ next = omega arith in
        cc

name_failed : (text : List ℕ) (at x : ℕ) → column_of (get_or text at 0) ≡ some x → NoNameAt text at → Failed want_name text at (at + 1)
name_failed text at x e n =
    let h = column_is (get_or text at 0) x e in
    let h₀ = h.0 in let h₁ = h.1 in
    let l = inside_text text at (λ z. omega arith) in
    record {
      stops = λ u. step_at_lem text at (want_name u) (want_row x u) l (ap (name_begins u) e)
          ∙ stop_at text (at + 1) (want_row x u) (none_row u h₀ h₁ l (digit_of (get_or text (at + 1) 0)) refl) refl;
      fits = omega arith;
    }
  where
    none_row : (u : Use) → x < column_count → get_or text at 0 ≡ 65 + x → at < length text → (z : Option ℕ) → digit_of (get_or text (at + 1) 0) ≡ z → row_begins x u z ≡ none
    none_row u h₀ h₁ l none f = refl
    none_row u h₀ h₁ l (some zero) f = refl
    none_row u h₀ h₁ l (some (suc d)) f =
        let b = digit_is (get_or text (at + 1) 0) (suc d) f in let b₀ = b.0 in let b₁ = b.1 in
        let m = name_is x (suc d) h₀ (omega arith) b₀ in
        let k = drop_more text at 0 l in
        let k' = drop_more text (at + 1) 0 (digit_within text (at + 1) (suc d) f) in
        let q : drop at text ≡ name_of (cell_at x (suc d)) ++ drop (at + 1 + 1) text = cc in
        absurd (n (cell_at x (suc d)) (drop (at + 1 + 1) text) (omega arith) q)

no_name_by : (text : List ℕ) (at : ℕ) → at ≤ length text → NoNameAt text at → (z : Option ℕ) → column_of (get_or text at 0) ≡ z → Failed want_name text at (name_end_lem at z)
no_name_by text at l n none e = record { stops = λ u. stop_at text at (want_name u) (ap (name_begins u) e) refl; fits = l }
no_name_by text at l n (some x) e = name_failed text at x e n

pub no_name : (text : List ℕ) (at place : ℕ) → at ≤ length text → NoName text at place → Failed want_name text at place
no_name text at place l h = subst (Failed want_name text at) (sym h.place_is) (no_name_by text at l h.no_name (column_of (get_or text at 0)) refl)

left_is : (b at : ℕ) → left_at b at ≡ name_end_lem at (column_of b)
left_is b at = grind (arith, nat_tests)

-- what the reader of names finds, in the words of the reader of formulas
pub name_means : (text : List ℕ) (at : ℕ) (r : Result (Cell × ℕ) ℕ) → MatchResult r (λ p. NameAt text at (number_of p.0) p.1) (λ place. LeftAt text at place) → at ≤ length text
    → MatchResult r (λ p. NameRead text at (number_of p.0) p.1) (λ place. Failed want_name text at place)
name_means text at r h l = MatchResult-weaker r h (λ p. name_read text at (number_of p.0) p.1)
    (λ place n. no_name text at place l (record { no_name = n.0; place_is = n.1 ∙ left_is (get_or text at 0) at }))
