-- What a formula means: its step from the answers so far, worked out from left to right.
use Rattle.std.specs.Prelude.{ℕ, zero, suc, ◌+◌, Bool, cond, List, [], ◌∷◌, ℤ, pos, negsuc, ◌+ℤ◌, ◌-ℤ◌, ◌*ℤ◌, neg_ℤ, ◌==◌, int_div, int_rem, nat_lt, unsigned_abs}
use Rattle.interfaces.specs.Cells.{cell_count}
use Rattle.interfaces.specs.Tasks.{Act, asks, gives, faults, Def}
use Rattle.whole.specs.declared.Whole.{Whole}
use Rattle.whole.specs.Whole.{within_limits, whole_means}
use Rattle.formula.specs.declared.byte.Operator.{Operator}
use Rattle.formula.specs.declared.byte.Operator.TheVariants.{Plus, Minus, Times, Over, Modulo}
use Rattle.formula.specs.Grammar.{Tree, number, cell, negated, joined, choice, lookup, total}

-- a part of a formula comes to a value, with the answers that are left, or the step is known
pub data Outcome : Type 0 where
  value : ℤ → List Whole → Outcome
  stops : Act Whole → Outcome

-- goes on with the value, if there is one
abbrev pub and_then : Outcome → (ℤ → List Whole → Outcome) → Outcome
and_then (value z rest) f = f z rest
and_then (stops a) f = stops a

-- the quotient, rounded toward zero
abbrev pub quotient : ℤ → ℤ → ℤ
quotient x y = int_div x y

-- the remainder, which has the dividend's sign
abbrev pub remainder : ℤ → ℤ → ℤ
remainder x y = int_rem x y

-- a result is held to the limits
abbrev pub held : ℕ → ℤ → List Whole → Outcome
held mark z rest = cond (within_limits z) (value z rest) (stops (faults 11 mark))

abbrev pub is_zero : ℤ → Bool
is_zero z = unsigned_abs z == 0

-- a divisor is not 0
abbrev pub divided : ℕ → ℤ → ℤ → List Whole → Outcome
divided mark y z rest = cond (is_zero y) (stops (faults 12 mark)) (held mark z rest)

-- an operator with its mark, its operands, and the answers that are left
abbrev pub operated : Operator → ℕ → ℤ → ℤ → List Whole → Outcome
operated Plus mark x y rest = held mark (x +ℤ y) rest
operated Minus mark x y rest = held mark (x -ℤ y) rest
operated Times mark x y rest = held mark (x *ℤ y) rest
operated Over mark x y rest = divided mark y (quotient x y) rest
operated Modulo mark x y rest = divided mark y (remainder x y) rest

-- a cell is worth the next answer, and is asked for where there is none
abbrev pub asked : ℕ → List Whole → Outcome
asked c [] = stops (asks c)
asked c (a ∷ rest) = value (whole_means a) rest

-- the cell of a number, if there is one
abbrev pub looked_up : ℕ → ℤ → List Whole → Outcome
looked_up mark (pos c) rest = cond (nat_lt c cell_count) (asked c rest) (stops (faults 13 mark))
looked_up mark (negsuc n) rest = stops (faults 13 mark)

-- the cells from `c` on, so many more, added to a sum; only the total is held to the limits
abbrev pub totalled : ℕ → ℕ → ℕ → ℤ → List Whole → Outcome
totalled mark c zero sum rest = held mark sum rest
totalled mark c (suc more) sum [] = stops (asks c)
totalled mark c (suc more) sum (a ∷ rest) = totalled mark (c + 1) more (sum +ℤ whole_means a) rest

-- what a formula comes to with these answers; minus never leads beyond the limits
abbrev pub work : Tree → List Whole → Outcome
work (number n) rest = value (pos n) rest
work (cell c) rest = asked c rest
work (negated t) rest = and_then (work t rest) (λ z rest'. value (neg_ℤ z) rest')
work (joined o mark t u) rest = and_then (work t rest) (λ x rest'. and_then (work u rest') (λ y rest''. operated o mark x y rest''))
work (choice t u v) rest = and_then (work t rest) (λ z rest'. cond (is_zero z) (work v rest') (work u rest'))
work (lookup mark t) rest = and_then (work t rest) (λ z rest'. looked_up mark z rest')
work (total mark c count) rest = totalled mark c count (pos 0) rest

-- the step that an outcome is
abbrev pub act_of : Outcome → Act Whole
act_of (value z rest) = gives (record { value = z })
act_of (stops a) = a

-- the definition that a formula stands for
abbrev pub meaning : Tree → Def Whole
meaning t answers = act_of (work t answers)
