-- What a held text means.
use Rattle.std.proofs.Common.{◌≡◌, ℕ, zero, suc, ◌+◌, Bool, true, false, cond, ltb, List, [], ◌∷◌, map, ℤ, pos, negsuc, ◌+ℤ◌, ◌-ℤ◌, ◌*ℤ◌, neg_ℤ, sym, refl, ap, ◌∙◌, arith}
use mathlib.Core.Option.{some}
use Rattle.std.proofs.lemmas.Bool.{cond-true}
use Rattle.interfaces.specs.Cells.{cell_count}
use Rattle.interfaces.specs.Tasks.{faults, step_of}
use Rattle.whole.specs.declared.Whole.{Whole}
use Rattle.whole.specs.Whole.{within_limits, limited, whole_means, whole_canon, whole_blank}
use Rattle.definitions.specs.Meant.{definition_in, meant}
use Rattle.formula.specs.declared.byte.Operator.{Operator}
use Rattle.formula.specs.declared.byte.Operator.TheVariants.{Plus, Minus, Times, Over, Modulo}
use Rattle.formula.specs.Grammar.{Tree, number, cell, negated, joined, choice, lookup, total}
use Rattle.formula.specs.Meaning.{Outcome, value, stops, and_then, held, is_zero, divided, quotient, remainder, operated, asked, looked_up, totalled, work, act_of, meaning}
use Rattle.formula.specs.Reader.{reads, reading, verdict_of, stands, run}
use Rattle.sheet_work.specs.Flows.{Worked, outcome_of}
use Rattle.sheet_reader.specs.Readers.{WholeRead}

-- an answer counts by its normal form
limited_by : (b : Bool) (z : ℤ) → within_limits z ≡ b → limited (cond b z (pos 0)) ≡ cond b z (pos 0)
limited_by true z e = cond-true (within_limits z) z (pos 0) e
limited_by false z e = refl

means_canon : (v : Whole) → whole_means (whole_canon v) ≡ whole_means v
means_canon v = limited_by (within_limits v.value) v.value refl

abbrev settle : Outcome → Outcome
settle (value z rest) = value z (map whole_canon rest)
settle (stops a) = stops a

settle_cond : (b : Bool) (x y : Outcome) → settle (cond b x y) ≡ cond b (settle x) (settle y)
settle_cond true x y = refl
settle_cond false x y = refl

settle_then : (o : Outcome) (f : ℤ → List Whole → Outcome) → ((z : ℤ) (rest : List Whole) → f z (map whole_canon rest) ≡ settle (f z rest)) → and_then (settle o) f ≡ settle (and_then o f)
settle_then (value z rest) f h = h z rest
settle_then (stops a) f h = refl

held_settles : (mark : ℕ) (z : ℤ) (rest : List Whole) → held mark z (map whole_canon rest) ≡ settle (held mark z rest)
held_settles mark z rest = sym (settle_cond (within_limits z) (value z rest) (stops (faults 11 mark)))

divided_settles : (mark : ℕ) (y z : ℤ) (rest : List Whole) → divided mark y z (map whole_canon rest) ≡ settle (divided mark y z rest)
divided_settles mark y z rest = ap (cond (is_zero y) (stops (faults 12 mark))) (held_settles mark z rest) ∙ sym (settle_cond (is_zero y) (stops (faults 12 mark)) (held mark z rest))

operated_settles : (o : Operator) (mark : ℕ) (x y : ℤ) (rest : List Whole) → operated o mark x y (map whole_canon rest) ≡ settle (operated o mark x y rest)
operated_settles Plus mark x y rest = held_settles mark (x +ℤ y) rest
operated_settles Minus mark x y rest = held_settles mark (x -ℤ y) rest
operated_settles Times mark x y rest = held_settles mark (x *ℤ y) rest
operated_settles Over mark x y rest = divided_settles mark y (quotient x y) rest
operated_settles Modulo mark x y rest = divided_settles mark y (remainder x y) rest

asked_settles : (c : ℕ) (rest : List Whole) → asked c (map whole_canon rest) ≡ settle (asked c rest)
asked_settles c [] = refl
asked_settles c (a ∷ rest) = ap (λ z. value z (map whole_canon rest)) (means_canon a)

looked_settles : (mark : ℕ) (z : ℤ) (rest : List Whole) → looked_up mark z (map whole_canon rest) ≡ settle (looked_up mark z rest)
looked_settles mark (pos c) rest =
    ap (λ o. cond (ltb c cell_count) o (stops (faults 13 mark))) (asked_settles c rest) ∙ sym (settle_cond (ltb c cell_count) (asked c rest) (stops (faults 13 mark)))
looked_settles mark (negsuc n) rest = refl

totalled_settles : (mark c more : ℕ) (sum : ℤ) (rest : List Whole) → totalled mark c more sum (map whole_canon rest) ≡ settle (totalled mark c more sum rest)
totalled_settles mark c zero sum rest = held_settles mark sum rest
totalled_settles mark c (suc more) sum [] = refl
totalled_settles mark c (suc more) sum (a ∷ rest) =
    ap (λ z. totalled mark (c + 1) more (sum +ℤ z) (map whole_canon rest)) (means_canon a) ∙ totalled_settles mark (c + 1) more (sum +ℤ whole_means a) rest

work_settles : (t : Tree) (rest : List Whole) → work t (map whole_canon rest) ≡ settle (work t rest)
work_settles (number n) rest = refl
work_settles (cell c) rest = asked_settles c rest
work_settles (negated t) rest = ap (λ o. and_then o (λ z rest'. value (neg_ℤ z) rest')) (work_settles t rest) ∙ settle_then (work t rest) (λ z rest'. value (neg_ℤ z) rest') (λ z rest'. refl)
work_settles (joined o mark t u) rest =
    ap (λ x. and_then x (λ x rest'. and_then (work u rest') (λ y rest''. operated o mark x y rest''))) (work_settles t rest)
    ∙ settle_then (work t rest) (λ x rest'. and_then (work u rest') (λ y rest''. operated o mark x y rest''))
    (λ x rest'. ap (λ y. and_then y (λ y rest''. operated o mark x y rest'')) (work_settles u rest') ∙ settle_then (work u rest') (λ y rest''. operated o mark x y rest'') (λ y rest''. operated_settles o mark x y rest''))
work_settles (choice t u v) rest =
    ap (λ x. and_then x (λ z rest'. cond (is_zero z) (work v rest') (work u rest'))) (work_settles t rest)
    ∙ settle_then (work t rest) (λ z rest'. cond (is_zero z) (work v rest') (work u rest'))
    (λ z rest'. ap (λ x. cond (is_zero z) x (work u (map whole_canon rest'))) (work_settles v rest') ∙ (ap (λ x. cond (is_zero z) (settle (work v rest')) x) (work_settles u rest') ∙ sym (settle_cond (is_zero z) (work v rest') (work u rest'))))
work_settles (lookup mark t) rest = ap (λ o. and_then o (λ z rest'. looked_up mark z rest')) (work_settles t rest) ∙ settle_then (work t rest) (λ z rest'. looked_up mark z rest') (λ z rest'. looked_settles mark z rest')
work_settles (total mark c count) rest = totalled_settles mark c count (pos 0) rest

act_settles : (o : Outcome) → act_of (settle o) ≡ act_of o
act_settles (value z rest) = refl
act_settles (stops a) = refl

-- the step of a cell that holds this text
meant_reads : (text : List ℕ) (t : Tree) → reading text ≡ reads t → meant stands text ≡ some (meaning t)
unfolding run
meant_reads [] t e = absurd (let z : ◌≡◌ {A = ℕ} 0 1 = cc in omega arith)
meant_reads (b ∷ bs) t e = ap (λ r. definition_in (verdict_of r)) e

pub step_reads : (text : List ℕ) (answers : List Whole) (w : Worked) → WholeRead text answers w → step_of whole_blank (meant stands text) (map whole_canon answers) ≡ act_of (outcome_of answers w)
step_reads text answers w r =
    ap (λ d. step_of whole_blank d (map whole_canon answers)) (meant_reads text r.tree r.is)
    ∙ (ap act_of (work_settles r.tree answers) ∙ (act_settles (work r.tree answers) ∙ ap act_of (sym r.works)))
