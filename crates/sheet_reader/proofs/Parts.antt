-- The parts of a formula, read and worked out.
use Rattle.std.proofs.Common.{◌≡◌, ℕ, ◌+◌, ◌<◌, ◌≤◌, eqb, leb, List, [], ◌∷◌, length, get_or, drop, pos, Ok, Err, sym, refl, ap, ◌∙◌, subst, ⊎_elim, arith}
use mathlib.Core.Option.{none}
use Rattle.std.proofs.lemmas.Bool.{cond-false, cond-true, ne_eqb, le-leb, cases_lt}
use Rattle.std.proofs.lemmas.List.{drop_more, drop_all}
use Rattle.interfaces.specs.Cells.{text_limit}
use Rattle.whole.specs.declared.Whole.{Whole}
use Rattle.whole.specs.Whole.{whole_limit, whole_means}
use Rattle.formula.specs.declared.byte.Operator.{Operator}
use Rattle.formula.specs.declared.byte.Link.{Link}
use Rattle.formula.specs.declared.byte.Link.TheVariants.{Weak, Strong, Loose}
use Rattle.formula.specs.declared.byte.Start.{Start}
use Rattle.formula.specs.declared.byte.Start.TheVariants.{Negation, Group, Choice, Lookup, Total, Digit, Column, Other}
use Rattle.formula.specs.Bytes.{link_of, column_of, start_of}
use Rattle.formula.specs.Grammar.{Tree, number, cell, negated, joined, choice, lookup, total}
use Rattle.formula.specs.Meaning.{value, and_then, asked, looked_up, totalled}
use Rattle.formula.specs.Reader.{Around, whole, in_group, in_first, in_second, in_third, in_lookup, AtTerm, first_term, after_sum, AtFactor, first_factor, after_product, behind_minus, as_factor, as_first, State, want, have, want_name, want_row, due, want_count, due_all, inside, hand, begin, shut, link, name_begins, counted, step, fails, run, reading}
use Rattle.formula.proofs.Bytes.{start_column_is, column_at_lem, digit_at}
use Rattle.formula.proofs.Runs.{run_end, run_stop, NoStrong, sum_ends, count_good}
use Rattle.sheet_work.specs.Flows.{Flow, Worked, flow_after, outcome_of, go_on, work_from, negation, operation, chosen}
use Rattle.sheet_reader.specs.Readers.{factor_after, term_start, term_after, formula_after, Took, NoProduct, Closes, TookPart, FailedPart, WholeRead, WholeFailed}
use Rattle.names.specs.Names.{NameAt}
use Rattle.sheet_parts.specs.Tokens.{spelled, whole_of, number_in, NoName, count_in, run_at, Failed, Spelled, NameRead, CountRead}
use Rattle.sheet_reader.proofs.Flows.{negated_flow, lookup_flow, joined_flow, choice_flow}
use Rattle.sheet_parts.proofs.Means.{step_at_lem, stop_at, inside_text, fails_within, spelled_ok, spelled_err, met, missed, number_ok, number_err, name_read, no_name, count_ok, count_err}

-- what begins elsewhere goes wrong elsewhere
failed_from : {X Y : Type 0} (start : X → State) (later : Y → State) (text : List ℕ) (at next place : ℕ) (g : X → Y)
    → ((x : X) → run_at text at (start x) ≡ run_at text next (later (g x))) → Failed later text next place → Failed start text at place
failed_from start later text at next place g e f = record { stops = λ x. e x ∙ f.stops (g x); fits = f.fits }

part_failed : {X : Type 0} (start : X → State) (text : List ℕ) (at next byte place : ℕ) (g : X → Around) → ((x : X) → Closes (g x) byte)
    → ((x : X) → run_at text at (start x) ≡ run_at text next (inside (g x))) → FailedPart text next byte place → Failed start text at place
part_failed start text at next byte place g c e f = record { stops = λ x. e x ∙ f.stops (g x) (c x); fits = f.fits }

closes_group : (w : AtFactor) → Closes (in_group w) 41
closes_group w = record { others = λ t b n. cond-false (eqb b 41) _ none (ne_eqb b 41 n); not_end = λ t. refl }

closes_first : (w : AtFactor) → Closes (in_first w) 44
closes_first w = record { others = λ t b n. cond-false (eqb b 44) _ none (ne_eqb b 44 n); not_end = λ t. refl }

closes_second : (u : Tree) (w : AtFactor) → Closes (in_second u w) 44
closes_second u w = record { others = λ t b n. cond-false (eqb b 44) _ none (ne_eqb b 44 n); not_end = λ t. refl }

closes_third : (u v : Tree) (w : AtFactor) → Closes (in_third u v w) 41
closes_third u v w = record { others = λ t b n. cond-false (eqb b 41) _ none (ne_eqb b 41 n); not_end = λ t. refl }

closes_lookup : (m : ℕ) (w : AtFactor) → Closes (in_lookup m w) 41
closes_lookup m w = record { others = λ t b n. cond-false (eqb b 41) _ none (ne_eqb b 41 n); not_end = λ t. refl }

-- a start or a link that is known, and is not what stands behind the end, stands in the text
pub start_within : (text : List ℕ) (at : ℕ) (s : Start) → start_of (get_or text at 0) ≡ s → (start_of 0 ≡ s → ⊥) → at < length text
start_within text at s e n = inside_text text at (λ z. n (ap start_of (sym z) ∙ e))

pub link_within : (text : List ℕ) (at : ℕ) (l : Link) → link_of (get_or text at 0) ≡ l → (link_of 0 ≡ l → ⊥) → at < length text
link_within text at l e n = inside_text text at (λ z. n (ap link_of (sym z) ∙ e))

-- `sum`
pub sum_works : (answers : List Whole) (from : Flow) (got : Worked) (mark f c d : ℕ) → f ≡ c → outcome_of answers got ≡ go_on answers from (totalled mark f d (pos 0)) → outcome_of answers got ≡ go_on answers from (totalled mark c d (pos 0))
sum_works answers from got mark f c d e g = rw (← e) g

module _ (text : List ℕ) (at : ℕ) (e : start_of (get_or text at 0) ≡ Total) where
  sum_stands : at < length text
  sum_stands = start_within text at Total e (λ h. cc)

  sum_begins : (w : AtFactor) → run_at text at (want w) ≡ run_at text (at + 1) (due_all (117 ∷ 109 ∷ 40 ∷ []) (want_name (as_first at w)))
  sum_begins w = step_at_lem text at (want w) (due_all (117 ∷ 109 ∷ 40 ∷ []) (want_name (as_first at w))) sum_stands (ap (begin at w) e)

  pub sum_word_failed : (place : ℕ) → Err place ≡ spelled text (at + 1) (117 ∷ 109 ∷ 40 ∷ []) → Failed want text at place
  sum_word_failed place f = failed_from want (due_all (117 ∷ 109 ∷ 40 ∷ [])) text at (at + 1) place (λ w. want_name (as_first at w)) sum_begins (spelled_err text (at + 1) (117 ∷ 109 ∷ 40 ∷ []) place (let l = sum_stands in omega arith) f)

  module _ (inner : ℕ) (s : Ok inner ≡ spelled text (at + 1) (117 ∷ 109 ∷ 40 ∷ [])) where
    sum_word : Spelled text (at + 1) (117 ∷ 109 ∷ 40 ∷ []) inner
    sum_word = spelled_ok text (at + 1) (117 ∷ 109 ∷ 40 ∷ []) inner (let l = sum_stands in omega arith) s

    sum_inner : (w : AtFactor) → run_at text at (want w) ≡ run_at text inner (want_name (as_first at w))
    sum_inner w = sum_begins w ∙ sum_word.runs (want_name (as_first at w))

    pub sum_name_failed : (place : ℕ) → NoName text inner place → Failed want text at place
    sum_name_failed place f = failed_from want want_name text at inner place (λ w. as_first at w) sum_inner (no_name text inner place sum_word.fits f)

    module _ (c next : ℕ) (n : NameAt text inner c next) where
      sum_named : NameRead text inner c next
      sum_named = name_read text inner c next n

      sum_name : (w : AtFactor) → run_at text at (want w) ≡ run_at text next (due_all (44 ∷ []) (want_count at c w))
      sum_name w = sum_inner w ∙ sum_named.runs (as_first at w)

      pub sum_comma_failed : (place : ℕ) → Err place ≡ spelled text next (44 ∷ []) → Failed want text at place
      sum_comma_failed place f = failed_from want (due_all (44 ∷ [])) text at next place (λ w. want_count at c w) sum_name (spelled_err text next (44 ∷ []) place sum_named.fits f)

      module _ (counted-at : ℕ) (k : Ok counted-at ≡ spelled text next (44 ∷ [])) where
        sum_spelled : Spelled text next (44 ∷ []) counted-at
        sum_spelled = spelled_ok text next (44 ∷ []) counted-at sum_named.fits k

        sum_comma : (w : AtFactor) → run_at text at (want w) ≡ run_at text counted-at (want_count at c w)
        sum_comma w = sum_name w ∙ sum_spelled.runs (want_count at c w)

        pub sum_count_failed : (place : ℕ) → Err place ≡ count_in text counted-at c → Failed want text at place
        sum_count_failed place e =
            let f = count_err text counted-at c place e in
            record {
              stops = λ w. sum_comma w ∙ (stop_at text counted-at (want_count at c w) (f.refused at w) refl ∙ ap fails (sym f.place_is));
              fits = let a = f.place_is in let b = sum_spelled.fits in omega arith;
            }

        module _ (first d : ℕ) (q : Ok (first, d) ≡ count_in text counted-at c) where
          sum_counted : (first ≡ c) × CountRead text counted-at c d
          sum_counted = count_ok text counted-at c first d q

          pub sum_within : counted-at < length text
          sum_within = sum_counted.1.within

          sum_count : (w : AtFactor) → run_at text at (want w) ≡ run_at text (counted-at + 1) (due_all (41 ∷ []) (have (hand (total at c d) w)))
          sum_count w = sum_comma w ∙ step_at_lem text counted-at (want_count at c w) (due 41 [] (have (hand (total at c d) w))) sum_within
              (let r = sum_counted.1 in ap (counted at c w) r.is ∙ (ap (counted at c w) (sym (digit_at d (omega (arith, r.few)))) ∙ count_good at c d w r.some_cell r.few r.last))

          pub sum_close_failed : (place : ℕ) → Err place ≡ spelled text (counted-at + 1) (41 ∷ []) → Failed want text at place
          sum_close_failed place f =
              failed_from want (due_all (41 ∷ [])) text at (counted-at + 1) place (λ w. have (hand (total at c d) w)) sum_count (spelled_err text (counted-at + 1) (41 ∷ []) place (let l = sum_within in omega arith) f)

          pub sum_took : (last : ℕ) (answers : List Whole) (from : Flow) (got : Worked) → Ok last ≡ spelled text (counted-at + 1) (41 ∷ []) → outcome_of answers got ≡ go_on answers from (totalled at first d (pos 0))
              → Took want factor_after text at answers from got last
          sum_took last answers from got y g =
              let z = spelled_ok text (counted-at + 1) (41 ∷ []) last (let l = sum_within in omega arith) y in
              record {
                tree = total at c d;
                runs = λ w. sum_count w ∙ z.runs (have (hand (total at c d) w));
                works = subst (λ f. outcome_of answers got ≡ go_on answers from (totalled at f d (pos 0))) sum_counted.0 g;
                onward = let a = sum_word.next_is in let b = sum_named.onward in let x = sum_spelled.next_is in let v = z.next_is in omega arith;
                fits = z.fits;
              }

-- `at`
module _ (text : List ℕ) (at : ℕ) (e : start_of (get_or text at 0) ≡ Lookup) where
  lookup_stands : at < length text
  lookup_stands = start_within text at Lookup e (λ h. cc)

  lookup_begins : (w : AtFactor) → run_at text at (want w) ≡ run_at text (at + 1) (due_all (116 ∷ 40 ∷ []) (inside (in_lookup at w)))
  lookup_begins w = step_at_lem text at (want w) (due_all (116 ∷ 40 ∷ []) (inside (in_lookup at w))) lookup_stands (ap (begin at w) e)

  pub lookup_word_failed : (place : ℕ) → Err place ≡ spelled text (at + 1) (116 ∷ 40 ∷ []) → Failed want text at place
  lookup_word_failed place f = failed_from want (due_all (116 ∷ 40 ∷ [])) text at (at + 1) place (λ w. inside (in_lookup at w)) lookup_begins (spelled_err text (at + 1) (116 ∷ 40 ∷ []) place (let l = lookup_stands in omega arith) f)

  module _ (inner : ℕ) (s : Ok inner ≡ spelled text (at + 1) (116 ∷ 40 ∷ [])) where
    lookup_word : Spelled text (at + 1) (116 ∷ 40 ∷ []) inner
    lookup_word = spelled_ok text (at + 1) (116 ∷ 40 ∷ []) inner (let l = lookup_stands in omega arith) s

    lookup_inner : (w : AtFactor) → run_at text at (want w) ≡ run_at text inner (inside (in_lookup at w))
    lookup_inner w = lookup_begins w ∙ lookup_word.runs (inside (in_lookup at w))

    pub lookup_part_failed : (place : ℕ) → FailedPart text inner 41 place → Failed want text at place
    lookup_part_failed place f = part_failed want text at inner 41 place (λ w. in_lookup at w) (closes_lookup at) lookup_inner f

    pub lookup_took : (last : ℕ) (answers : List Whole) (from : Flow) (w r : Worked) → TookPart text inner answers from 41 w last → outcome_of answers r ≡ and_then (outcome_of answers w) (looked_up at)
        → Took want factor_after text at answers from r last
    lookup_took last answers from w r p g = record {
      tree = lookup at p.tree;
      runs = λ x. lookup_inner x ∙ p.runs (in_lookup at x) (have (hand (lookup at p.tree) x)) refl;
      works = lookup_flow answers from at p.tree w r p.works g;
      onward = let a = lookup_word.next_is in let b = p.onward in omega arith;
      fits = p.fits;
    }

-- `if`
module _ (text : List ℕ) (at : ℕ) (e : start_of (get_or text at 0) ≡ Choice) where
  choice_stands : at < length text
  choice_stands = start_within text at Choice e (λ h. cc)

  choice_begins : (w : AtFactor) → run_at text at (want w) ≡ run_at text (at + 1) (due_all (102 ∷ 40 ∷ []) (inside (in_first w)))
  choice_begins w = step_at_lem text at (want w) (due_all (102 ∷ 40 ∷ []) (inside (in_first w))) choice_stands (ap (begin at w) e)

  pub choice_word_failed : (place : ℕ) → Err place ≡ spelled text (at + 1) (102 ∷ 40 ∷ []) → Failed want text at place
  choice_word_failed place f = failed_from want (due_all (102 ∷ 40 ∷ [])) text at (at + 1) place (λ w. inside (in_first w)) choice_begins (spelled_err text (at + 1) (102 ∷ 40 ∷ []) place (let l = choice_stands in omega arith) f)

  module _ (inner : ℕ) (s : Ok inner ≡ spelled text (at + 1) (102 ∷ 40 ∷ [])) where
    choice_word : Spelled text (at + 1) (102 ∷ 40 ∷ []) inner
    choice_word = spelled_ok text (at + 1) (102 ∷ 40 ∷ []) inner (let l = choice_stands in omega arith) s

    choice_inner : (w : AtFactor) → run_at text at (want w) ≡ run_at text inner (inside (in_first w))
    choice_inner w = choice_begins w ∙ choice_word.runs (inside (in_first w))

    pub choice_first_failed : (place : ℕ) → FailedPart text inner 44 place → Failed want text at place
    choice_first_failed place f = part_failed want text at inner 44 place in_first closes_first choice_inner f

    module _ (answers : List Whole) (from : Flow) (flow : Flow) (test : Worked) (second : ℕ) (p : TookPart text inner answers from 44 test second) (h : flow ≡ flow_after test) where
      choice_second : (w : AtFactor) → run_at text at (want w) ≡ run_at text second (inside (in_second p.tree w))
      choice_second w = choice_inner w ∙ p.runs (in_first w) (inside (in_second p.tree w)) refl

      pub choice_second_failed : (place : ℕ) → FailedPart text second 44 place → Failed want text at place
      choice_second_failed place f = part_failed want text at second 44 place (in_second p.tree) (closes_second p.tree) choice_second f

      module _ (yes-part : Worked) (third : ℕ) (q : TookPart text second answers flow 44 yes-part third) where
        choice_third : (w : AtFactor) → run_at text at (want w) ≡ run_at text third (inside (in_third p.tree q.tree w))
        choice_third w = choice_second w ∙ q.runs (in_second p.tree w) (inside (in_third p.tree q.tree w)) refl

        pub choice_third_failed : (place : ℕ) → FailedPart text third 41 place → Failed want text at place
        choice_third_failed place f = part_failed want text at third 41 place (in_third p.tree q.tree) (closes_third p.tree q.tree) choice_third f

        module _ (no_part : Worked) (last : ℕ) (r : TookPart text third answers flow 41 no_part last) where
          pub choice_took : (got : Worked) → outcome_of answers got ≡ chosen (outcome_of answers test) (outcome_of answers yes-part) (outcome_of answers no_part) → Took want factor_after text at answers from got last
          choice_took got g = record {
            tree = choice p.tree q.tree r.tree;
            runs = λ w. choice_third w ∙ r.runs (in_third p.tree q.tree w) (have (hand (choice p.tree q.tree r.tree) w)) refl;
            works = choice_flow answers from flow p.tree q.tree r.tree test yes-part no_part got p.works h q.works r.works g;
            onward = let a = choice_word.next_is in let b = p.onward in let c = q.onward in let d = r.onward in omega arith;
            fits = r.fits;
          }

-- the other factors
pub negation_took : (text : List ℕ) (at : ℕ) (answers : List Whole) (from : Flow) (w r : Worked) (last : ℕ) → start_of (get_or text at 0) ≡ Negation
    → Took want factor_after text (at + 1) answers from w last → outcome_of answers r ≡ and_then (outcome_of answers w) negation → Took want factor_after text at answers from r last
negation_took text at answers from w r last e p g = record {
  tree = negated p.tree;
  runs = λ x. step_at_lem text at (want x) (want (behind_minus x)) (start_within text at Negation e (λ h. cc)) (ap (begin at x) e) ∙ p.runs (behind_minus x);
  works = negated_flow answers from p.tree w r p.works g;
  onward = let a = p.onward in omega arith;
  fits = p.fits;
}

pub negation_failed : (text : List ℕ) (at place : ℕ) → start_of (get_or text at 0) ≡ Negation → Failed want text (at + 1) place → Failed want text at place
negation_failed text at place e f = failed_from want want text at (at + 1) place behind_minus (λ x. step_at_lem text at (want x) (want (behind_minus x)) (start_within text at Negation e (λ h. cc)) (ap (begin at x) e)) f

group_begins : (text : List ℕ) (at : ℕ) → start_of (get_or text at 0) ≡ Group → (w : AtFactor) → run_at text at (want w) ≡ run_at text (at + 1) (inside (in_group w))
group_begins text at e w = step_at_lem text at (want w) (inside (in_group w)) (start_within text at Group e (λ h. cc)) (ap (begin at w) e)

pub group_took : (text : List ℕ) (at : ℕ) (answers : List Whole) (from : Flow) (w : Worked) (last : ℕ) → start_of (get_or text at 0) ≡ Group
    → TookPart text (at + 1) answers from 41 w last → Took want factor_after text at answers from w last
group_took text at answers from w last e p = record {
  tree = p.tree;
  runs = λ x. group_begins text at e x ∙ p.runs (in_group x) (have (hand p.tree x)) refl;
  works = p.works;
  onward = let a = p.onward in omega arith;
  fits = p.fits;
}

pub group_failed : (text : List ℕ) (at place : ℕ) → start_of (get_or text at 0) ≡ Group → FailedPart text (at + 1) 41 place → Failed want text at place
group_failed text at place e f = part_failed want text at (at + 1) 41 place in_group closes_group (group_begins text at e) f

within_is : (n : ℕ) (v : Whole) → v ≡ whole_of n → n ≤ whole_limit → whole_means v ≡ pos n
within_is n v e l = ap whole_means e ∙ cond-true (leb n whole_limit) (pos n) (pos 0) (le-leb n whole_limit l)

value_flow : (answers : List Whole) (from : Flow) (v : Whole) (n : ℕ) → whole_means v ≡ pos n → go_on answers from (value (whole_means v)) ≡ work_from answers from (number n)
value_flow answers (Ok used) v n e = ap (λ z. value z (drop used answers)) e
value_flow answers (Err s) v n e = refl

pub number_took : (text : List ℕ) (at d : ℕ) (v : Whole) (next : ℕ) (answers : List Whole) (from : Flow) (w : Worked) → start_of (get_or text at 0) ≡ Digit d → Ok (v, next) ≡ number_in text at
    → outcome_of answers w ≡ go_on answers from (value (whole_means v)) → Took want factor_after text at answers from w next
number_took text at d v next answers from w s e g =
    let r = number_ok text at d v next s e in
    record { tree = number r.0; runs = r.2.runs; works = g ∙ value_flow answers from v r.0 (within_is r.0 v r.1 r.2.limit); onward = r.2.onward; fits = r.2.fits }

pub number_failed : (text : List ℕ) (at d place : ℕ) → start_of (get_or text at 0) ≡ Digit d → Err place ≡ number_in text at → Failed want text at place
number_failed text at d place s e = number_err text at d place s e

name_begins_lem : (text : List ℕ) (at x : ℕ) → start_of (get_or text at 0) ≡ Column x → (w : AtFactor) → run_at text at (want w) ≡ run_at text at (want_name (as_factor w))
name_begins_lem text at x e w =
    let h = start_column_is (get_or text at 0) x e in
    let h₁ = h.1 in
    let l = inside_text text at (λ z. omega arith) in
    step_at_lem text at (want w) (want_row x (as_factor w)) l (ap (begin at w) e)
    ∙ sym (step_at_lem text at (want_name (as_factor w)) (want_row x (as_factor w)) l (ap (name_begins (as_factor w)) (ap column_of h₁ ∙ column_at_lem x h.0)))

pub name_took : (text : List ℕ) (at x c next : ℕ) (answers : List Whole) (from : Flow) (w : Worked) → start_of (get_or text at 0) ≡ Column x → NameAt text at c next
    → outcome_of answers w ≡ go_on answers from (asked c) → Took want factor_after text at answers from w next
name_took text at x c next answers from w e n g = let r = name_read text at c next n in record { tree = cell c; runs = λ y. name_begins_lem text at x e y ∙ r.runs (as_factor y); works = g; onward = r.onward; fits = r.fits }

pub cell_failed : (text : List ℕ) (at x place : ℕ) → start_of (get_or text at 0) ≡ Column x → NoName text at place → Failed want text at place
cell_failed text at x place e f =
    let l = start_within text at (Column x) e (λ h. cc) in
    failed_from want want_name text at at place as_factor (name_begins_lem text at x e) (no_name text at place (omega arith) f)

pub other_failed : (text : List ℕ) (at : ℕ) → at ≤ length text → start_of (get_or text at 0) ≡ Other → Failed want text at at
other_failed text at l e = record { stops = λ w. stop_at text at (want w) (ap (begin at w) e) refl; fits = l }

-- a formula and the byte that ends it
loose_step : (text : List ℕ) (at : ℕ) (t : Tree) (k : Around) → link_of (get_or text at 0) ≡ Loose → step at (formula_after t k) (get_or text at 0) ≡ shut t k (get_or text at 0)
loose_step text at t k e = ap (link at (record { tree = t; wait = first_term k }) (get_or text at 0)) e

pub part_took : (text : List ℕ) (at byte next last : ℕ) (answers : List Whole) (from : Flow) (w : Worked) → Took inside formula_after text at answers from w next → link_of (get_or text next 0) ≡ Loose
    → 0 < byte → Ok last ≡ spelled text next (byte ∷ []) → TookPart text at answers from byte w last
part_took text at byte next last answers from w p e z o =
    let m = met text next byte last z o in
    record {
      tree = p.tree;
      runs = λ k st s.
          p.runs k ∙ (step_at_lem text next (formula_after p.tree k) st m.within (loose_step text next p.tree k e ∙ (ap (shut p.tree k) m.is ∙ s)) ∙ ap (λ n. run_at text n st) (sym m.next_is));
      works = p.works;
      onward = let a = p.onward in let b = m.next_is in omega arith;
      fits = let a = m.within in let b = m.next_is in omega arith;
    }

pub part_missed : (text : List ℕ) (at byte next place : ℕ) (answers : List Whole) (from : Flow) (w : Worked) → Took inside formula_after text at answers from w next → link_of (get_or text next 0) ≡ Loose
    → 0 < byte → Err place ≡ spelled text next (byte ∷ []) → FailedPart text at byte place
part_missed text at byte next place answers from w p e z o = let m = missed text next byte place z o in record {
  stops = λ k c. p.runs k ∙ (stop_at text next (formula_after p.tree k) (loose_step text next p.tree k e ∙ c.others p.tree (get_or text next 0) m.is_not) (c.not_end p.tree) ∙ ap fails (sym m.place_is));
  fits = let a = p.fits in let b = m.place_is in omega arith;
}

pub part_fails : (text : List ℕ) (at byte place : ℕ) → Failed inside text at place → FailedPart text at byte place
part_fails text at byte place f = record { stops = λ k c. f.stops k; fits = f.fits }

-- factors joined
pub term_first : (text : List ℕ) (at next : ℕ) (answers : List Whole) (from : Flow) (w : Worked) → Took want factor_after text at answers from w next → Took term_start term_after text at answers from w next
term_first text at next answers from w p = record { tree = p.tree; runs = λ x. p.runs (first_factor x); works = p.works; onward = p.onward; fits = p.fits }

pub term_first_failed : (text : List ℕ) (at place : ℕ) → Failed want text at place → Failed term_start text at place
term_first_failed text at place f = record { stops = λ x. f.stops (first_factor x); fits = f.fits }

module _ (text : List ℕ) (at next : ℕ) (answers : List Whole) (from : Flow) (w : Worked) (o : Operator) (p : Took term_start term_after text at answers from w next) (e : link_of (get_or text next 0) ≡ Strong o) where
  term_links : (x : AtTerm) → run_at text at (term_start x) ≡ run_at text (next + 1) (want (after_product p.tree o next x))
  term_links x = p.runs x ∙ step_at_lem text next (term_after p.tree x) (want (after_product p.tree o next x)) (link_within text next (Strong o) e (λ h. cc)) (ap (link next (record { tree = p.tree; wait = x }) (get_or text next 0)) e)

  pub term_more_failed : (place : ℕ) → Failed want text (next + 1) place → Failed term_start text at place
  term_more_failed place f = failed_from term_start want text at (next + 1) place (after_product p.tree o next) term_links f

  pub term_more : (last : ℕ) (flow : Flow) (x r : Worked) → flow ≡ flow_after w → Took want factor_after text (next + 1) answers flow x last → outcome_of answers r ≡ operation o next (outcome_of answers w) (outcome_of answers x)
      → Took term_start term_after text at answers from r last
  term_more last flow x r h q g = record {
    tree = joined o next p.tree q.tree;
    runs = λ y. term_links y ∙ q.runs (after_product p.tree o next y);
    works = joined_flow answers from flow o next p.tree q.tree w x r p.works h q.works g;
    onward = let a = p.onward in let b = q.onward in omega arith;
    fits = q.fits;
  }

-- terms joined
no_strong : (text : List ℕ) (at : ℕ) → NoProduct text at → NoStrong (drop at text)
no_strong text at n = ⊎_elim (λ l. rw (drop_more text at 0 l) n) (λ l. rw (drop_all at text l) tt) (cases_lt at (length text))

pub formula_first : (text : List ℕ) (at next : ℕ) (answers : List Whole) (from : Flow) (w : Worked) → Took term_start term_after text at answers from w next → Took inside formula_after text at answers from w next
formula_first text at next answers from w p = record { tree = p.tree; runs = λ k. p.runs (first_term k); works = p.works; onward = p.onward; fits = p.fits }

pub formula_first_failed : (text : List ℕ) (at place : ℕ) → Failed term_start text at place → Failed inside text at place
formula_first_failed text at place f = record { stops = λ k. f.stops (first_term k); fits = f.fits }

pub neither : (l : Link) → ((o : Operator) → l ≡ Weak o → ⊥) → ((o : Operator) → l ≡ Strong o → ⊥) → l ≡ Loose
neither (Weak o) m n = absurd (m o refl)
neither (Strong o) m n = absurd (n o refl)
neither Loose m n = refl

module _ (text : List ℕ) (at next : ℕ) (answers : List Whole) (from : Flow) (w : Worked) (o : Operator) (p : Took inside formula_after text at answers from w next) (e : link_of (get_or text next 0) ≡ Weak o) where
  formula_links : (k : Around) → run_at text at (inside k) ≡ run_at text (next + 1) (term_start (after_sum p.tree o next k))
  formula_links k = p.runs k ∙ step_at_lem text next (formula_after p.tree k) (term_start (after_sum p.tree o next k)) (link_within text next (Weak o) e (λ h. cc)) (ap (link next (record { tree = p.tree; wait = first_term k }) (get_or text next 0)) e)

  pub formula_more_failed : (place : ℕ) → Failed term_start text (next + 1) place → Failed inside text at place
  formula_more_failed place f = failed_from inside term_start text at (next + 1) place (after_sum p.tree o next) formula_links f

  pub formula_more : (last : ℕ) (flow : Flow) (x r : Worked) → flow ≡ flow_after w → Took term_start term_after text (next + 1) answers flow x last → NoProduct text last
      → outcome_of answers r ≡ operation o next (outcome_of answers w) (outcome_of answers x) → Took inside formula_after text at answers from r last
  formula_more last flow x r h q n g = record {
    tree = joined o next p.tree q.tree;
    runs = λ k. formula_links k ∙ (q.runs (after_sum p.tree o next k) ∙ sum_ends p.tree q.tree o next k last (drop last text) (no_strong text last n));
    works = joined_flow answers from flow o next p.tree q.tree w x r p.works h q.works g;
    onward = let a = p.onward in let b = q.onward in omega arith;
    fits = q.fits;
  }

failed_short : (text : List ℕ) (place : ℕ) → length text ≤ text_limit → reading text ≡ fails place → WholeFailed text place
failed_short text place l e = record { short = λ k. e; long = λ k. absurd (omega arith); fits = let w = fails_within text 0 (inside whole) place e in omega arith }

-- the whole text
pub whole_took : (text : List ℕ) (answers : List Whole) (w : Worked) (next : ℕ) → length text ≤ text_limit → Took inside formula_after text 0 answers (Ok 0) w next → length text ≤ next → WholeRead text answers w
whole_took text answers w next b p l = record {
  tree = p.tree;
  short = b;
  is = p.runs whole ∙ (ap (run next (formula_after p.tree whole)) (drop_all next text l) ∙ run_end next (formula_after p.tree whole));
  works = p.works;
}

pub whole_left : (text : List ℕ) (answers : List Whole) (w : Worked) (next : ℕ) → length text ≤ text_limit → Took inside formula_after text 0 answers (Ok 0) w next → link_of (get_or text next 0) ≡ Loose → next < length text
    → WholeFailed text next
whole_left text answers w next b p e l = failed_short text next b
    (p.runs whole ∙ (ap (run next (formula_after p.tree whole)) (drop_more text next 0 l) ∙ run_stop next (formula_after p.tree whole) (get_or text next 0) (drop (next + 1) text) (loose_step text next p.tree whole e)))

pub whole_fails : (text : List ℕ) (place : ℕ) → length text ≤ text_limit → Failed inside text 0 place → WholeFailed text place
whole_fails text place b f = failed_short text place b (f.stops whole)
