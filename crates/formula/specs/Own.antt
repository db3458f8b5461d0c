-- No formula faults with a number of the engine's own. A language states this with a proof, which stands here.
use Rattle.std.specs.Prelude.{◌≡◌, ℕ, zero, suc, ◌+◌, Bool, true, false, cond, ◌≢◌, List, [], ◌∷◌, ℤ, pos, negsuc, ◌+ℤ◌, ◌-ℤ◌, ◌*ℤ◌, neg_ℤ, nat_lt}
use Rattle.std.proofs.Common.{arith}
use Rattle.interfaces.specs.Cells.{cell_count}
use Rattle.interfaces.specs.Tasks.{Act, asks, gives, faults, Own}
use Rattle.whole.specs.declared.Whole.{Whole}
use Rattle.whole.specs.Whole.{within_limits, whole_means}
use Rattle.formula.specs.declared.byte.Operator.{Operator}
use Rattle.formula.specs.declared.byte.Operator.TheVariants.{Plus, Minus, Times, Over, Modulo}
use Rattle.formula.specs.Grammar.{Tree, number, cell, negated, joined, choice, lookup, total}
use Rattle.formula.specs.Meaning.{Outcome, value, stops, and_then, quotient, remainder, held, is_zero, divided, operated, asked, looked_up, totalled, work, act_of}
use Rattle.formula.specs.Reader.{Reading, reads, fails, reading, verdict_of, stands}

-- an outcome that is no fault with 16 or 17
abbrev OwnAct : Act Whole → Type 0
OwnAct (asks c) = Unit {0}
OwnAct (gives v) = Unit {0}
OwnAct (faults n mark) = (n ≢ 16) × (n ≢ 17)

abbrev OwnOutcome : Outcome → Type 0
OwnOutcome (value z rest) = Unit {0}
OwnOutcome (stops a) = OwnAct a

own_cond : (b : Bool) (x y : Outcome) → OwnOutcome x → OwnOutcome y → OwnOutcome (cond b x y)
own_cond true x y p q = p
own_cond false x y p q = q

own_then : (o : Outcome) (f : ℤ → List Whole → Outcome) → OwnOutcome o → ((z : ℤ) (rest : List Whole) → OwnOutcome (f z rest)) → OwnOutcome (and_then o f)
own_then (value z rest) f p q = q z rest
own_then (stops a) f p q = p

own_held : (mark : ℕ) (z : ℤ) (rest : List Whole) → OwnOutcome (held mark z rest)
own_held mark z rest = own_cond (within_limits z) (value z rest) (stops (faults 11 mark)) tt ((λ e. omega arith), (λ e. omega arith))

own_divided : (mark : ℕ) (y z : ℤ) (rest : List Whole) → OwnOutcome (divided mark y z rest)
own_divided mark y z rest = own_cond (is_zero y) (stops (faults 12 mark)) (held mark z rest) ((λ e. omega arith), (λ e. omega arith)) (own_held mark z rest)

own_operated : (o : Operator) (mark : ℕ) (x y : ℤ) (rest : List Whole) → OwnOutcome (operated o mark x y rest)
own_operated Plus mark x y rest = own_held mark (x +ℤ y) rest
own_operated Minus mark x y rest = own_held mark (x -ℤ y) rest
own_operated Times mark x y rest = own_held mark (x *ℤ y) rest
own_operated Over mark x y rest = own_divided mark y (quotient x y) rest
own_operated Modulo mark x y rest = own_divided mark y (remainder x y) rest

own_asked : (c : ℕ) (rest : List Whole) → OwnOutcome (asked c rest)
own_asked c [] = tt
own_asked c (a ∷ rest) = tt

own_looked : (mark : ℕ) (z : ℤ) (rest : List Whole) → OwnOutcome (looked_up mark z rest)
own_looked mark (pos c) rest = own_cond (nat_lt c cell_count) (asked c rest) (stops (faults 13 mark)) (own_asked c rest) ((λ e. omega arith), (λ e. omega arith))
own_looked mark (negsuc n) rest = ((λ e. omega arith), (λ e. omega arith))

own_totalled : (mark c more : ℕ) (sum : ℤ) (rest : List Whole) → OwnOutcome (totalled mark c more sum rest)
own_totalled mark c zero sum rest = own_held mark sum rest
own_totalled mark c (suc more) sum [] = tt
own_totalled mark c (suc more) sum (a ∷ rest) = own_totalled mark (c + 1) more (sum +ℤ whole_means a) rest

own_work : (t : Tree) (rest : List Whole) → OwnOutcome (work t rest)
own_work (number n) rest = tt
own_work (cell c) rest = own_asked c rest
own_work (negated t) rest = own_then (work t rest) (λ z rest'. value (neg_ℤ z) rest') (own_work t rest) (λ z rest'. tt)
own_work (joined o mark t u) rest = own_then (work t rest) (λ x rest'. and_then (work u rest') (λ y rest''. operated o mark x y rest'')) (own_work t rest)
    (λ x rest'. own_then (work u rest') (λ y rest''. operated o mark x y rest'') (own_work u rest') (λ y rest''. own_operated o mark x y rest''))
own_work (choice t u v) rest = own_then (work t rest) (λ z rest'. cond (is_zero z) (work v rest') (work u rest')) (own_work t rest)
    (λ z rest'. own_cond (is_zero z) (work v rest') (work u rest') (own_work v rest') (own_work u rest'))
own_work (lookup mark t) rest = own_then (work t rest) (λ z rest'. looked_up mark z rest') (own_work t rest) (λ z rest'. own_looked mark z rest')
own_work (total mark c count) rest = own_totalled mark c count (pos 0) rest

own_act : (o : Outcome) → OwnOutcome o → (n m : ℕ) → act_of o ≡ faults n m → (n ≢ 16) × (n ≢ 17)
own_act (value z rest) p n m e = absurd (let z : ◌≡◌ {A = ℕ} 0 1 = cc in omega arith)
own_act (stops (asks c)) p n m e = absurd (let z : ◌≡◌ {A = ℕ} 0 1 = cc in omega arith)
own_act (stops (gives v)) p n m e = absurd (let z : ◌≡◌ {A = ℕ} 0 1 = cc in omega arith)
own_act (stops (faults k l)) p n m e = let i : k ≡ n = cc in rw (← i) p

own_by : (r : Reading) → Own (verdict_of r)
own_by (reads t) = λ answers n m e. own_act (work t answers) (own_work t answers) n m e
own_by (fails place) = tt

pub stands_own : (text : List ℕ) → Own (stands text)
stands_own text = own_by (reading text)
