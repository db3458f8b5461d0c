-- The reader of formulas: it takes a text byte by byte, and holds what is read and waits for the rest. It is a
-- way to find the tree; the theorems at the end say what it finds, in the words of the grammar.
use Rattle.std.specs.Prelude.{◌≡◌, ℕ, ◌+◌, ◌-◌, ◌*◌, cond, List, [], ◌∷◌, codes, ◌==◌, nat_le, nat_lt}
use Rattle.std.proofs.Math.Option.{Option, none, some}
use Rattle.interfaces.specs.Cells.{cell_count}
use Rattle.interfaces.specs.Tasks.{Def, Verdict, legal, illegal}
use Rattle.names.specs.Names.{row_count}
use Rattle.whole.specs.declared.Whole.{Whole}
use Rattle.whole.specs.Whole.{whole_limit}
use Rattle.definitions.specs.Longest.{Longest}
use Rattle.formula.specs.declared.byte.Operator.{Operator}
use Rattle.formula.specs.declared.byte.Link.{Link}
use Rattle.formula.specs.declared.byte.Link.TheVariants.{Weak, Strong, Loose}
use Rattle.formula.specs.declared.byte.Start.{Start}
use Rattle.formula.specs.declared.byte.Start.TheVariants.{Negation, Group, Choice, Lookup, Total, Digit, Column, Other}
use Rattle.formula.specs.Bytes.{link_of, digit_of, column_of, start_of}
use Rattle.formula.specs.Grammar.{Tree, number, cell, negated, joined, choice, lookup, total, sum_limit, Formula, Legal}
use Rattle.formula.specs.Meaning.{meaning}

-- what is read and waits
mutual
  -- for a formula: nothing before it, a group, or the parts of `if` and `at` before it
  pub data Around : Type 0 where
    whole : Around
    in_group : AtFactor → Around
    in_first : AtFactor → Around
    in_second : Tree → AtFactor → Around
    in_third : Tree → Tree → AtFactor → Around
    in_lookup : ℕ → AtFactor → Around

  -- for a term: nothing, or a formula on its left
  pub data AtTerm : Type 0 where
    first_term : Around → AtTerm
    after_sum : Tree → Operator → ℕ → Around → AtTerm

  -- for a factor: nothing, a term on its left, or a minus
  pub data AtFactor : Type 0 where
    first_factor : AtTerm → AtFactor
    after_product : Tree → Operator → ℕ → AtTerm → AtFactor
    behind_minus : AtFactor → AtFactor

-- the term that is read so far, and what waits for it
pub record Held : Type 0 where
  pub tree : Tree
  pub wait : AtTerm

-- a name is a factor, or the first cell of a `sum`
pub data Use : Type 0 where
  as_factor : AtFactor → Use
  as_first : ℕ → AtFactor → Use

-- what comes next: a factor; what follows a factor; more of a number; a name, its row, more of its row; a byte
-- and more bytes before that state; the count of a `sum`
pub data State : Type 0 where
  want : AtFactor → State
  have : Held → State
  in_number : ℕ → AtFactor → State
  want_name : Use → State
  want_row : ℕ → Use → State
  in_row : ℕ → ℕ → Use → State
  due : ℕ → List ℕ → State → State
  want_count : ℕ → ℕ → AtFactor → State

abbrev pub due_all : List ℕ → State → State
due_all [] st = st
due_all (b ∷ bs) st = due b bs st

-- a formula begins
abbrev pub inside : Around → State
inside k = want (first_factor (first_term k))

-- the formula that ends with this term, and what waits for it
abbrev pub closed : Tree → AtTerm → Tree
closed t (first_term k) = t
closed t (after_sum left o mark k) = joined o mark left t

abbrev pub around : AtTerm → Around
around (first_term k) = k
around (after_sum left o mark k) = k

-- the term that ends with this factor
abbrev pub hand : Tree → AtFactor → Held
hand t (first_factor w) = record { tree = t; wait = w }
hand t (after_product left o mark w) = record { tree = joined o mark left t; wait = w }
hand t (behind_minus w) = hand (negated t) w

-- a factor begins so
abbrev pub begin : ℕ → AtFactor → Start → Option State
begin at w Negation = some (want (behind_minus w))
begin at w Group = some (inside (in_group w))
begin at w Choice = some (due_all (codes "f(") (inside (in_first w)))
begin at w Lookup = some (due_all (codes "t(") (inside (in_lookup at w)))
begin at w Total = some (due_all (codes "um(") (want_name (as_first at w)))
begin at w (Digit d) = some (cond (d == 0) (have (hand (number 0) w)) (in_number d w))
begin at w (Column c) = some (want_row c (as_factor w))
begin at w Other = none

-- a byte that is no operator ends the formula
abbrev pub shut : Tree → Around → ℕ → Option State
shut t whole b = none
shut t (in_group w) b = cond (b == 41) (some (have (hand t w))) none
shut t (in_first w) b = cond (b == 44) (some (inside (in_second t w))) none
shut t (in_second u w) b = cond (b == 44) (some (inside (in_third u t w))) none
shut t (in_third u v w) b = cond (b == 41) (some (have (hand (choice u v t) w))) none
shut t (in_lookup mark w) b = cond (b == 41) (some (have (hand (lookup mark t) w))) none

abbrev pub link : ℕ → Held → ℕ → Link → Option State
link at h b (Weak o) = some (want (first_factor (after_sum (closed h.tree h.wait) o at (around h.wait))))
link at h b (Strong o) = some (want (after_product h.tree o at h.wait))
link at h b Loose = shut (closed h.tree h.wait) (around h.wait) b

abbrev pub follow : ℕ → Held → ℕ → Option State
follow at h b = link at h b (link_of b)

abbrev pub meet : ℕ → List ℕ → State → ℕ → Option State
meet c cs st b = cond (b == c) (some (due_all cs st)) none

-- a name is complete
abbrev pub named : Use → ℕ → State
named (as_factor w) c = have (hand (cell c) w)
named (as_first mark w) c = due 44 [] (want_count mark c w)

abbrev pub after_name : ℕ → Use → ℕ → ℕ → Option State
after_name at (as_factor w) c b = follow at (hand (cell c) w) b
after_name at (as_first mark w) c b = meet 44 [] (want_count mark c w) b

-- the cell of a column, from 0, and a row, from 1
abbrev pub cell_at : ℕ → ℕ → ℕ
cell_at c r = c * row_count + (r - 1)

abbrev pub more_number : ℕ → ℕ → AtFactor → ℕ → Option ℕ → Option State
more_number at n w b none = follow at (hand (number n) w) b
more_number at n w b (some d) = cond (nat_le (n * 10 + d) whole_limit) (some (in_number (n * 10 + d) w)) none

abbrev pub name_begins : Use → Option ℕ → Option State
name_begins u none = none
name_begins u (some c) = some (want_row c u)

abbrev pub row_begins : ℕ → Use → Option ℕ → Option State
row_begins c u none = none
row_begins c u (some d) = cond (d == 0) none (some (in_row c d u))

abbrev pub more_row : ℕ → ℕ → ℕ → Use → ℕ → Option ℕ → Option State
more_row at c r u b none = after_name at u (cell_at c r) b
more_row at c r u b (some d) = cond (nat_le (r * 10 + d) row_count) (some (named u (cell_at c (r * 10 + d)))) none

abbrev pub counted : ℕ → ℕ → AtFactor → Option ℕ → Option State
counted mark c w none = none
counted mark c w (some d) =
    cond (nat_lt 0 d) (cond (nat_le d sum_limit) (cond (nat_le (c + d) cell_count) (some (due 41 [] (have (hand (total mark c d) w)))) none) none) none

-- the state after one byte more, at the place `at`, if the text can go on so
abbrev pub step : ℕ → State → ℕ → Option State
step at (want w) b = begin at w (start_of b)
step at (have h) b = follow at h b
step at (in_number n w) b = more_number at n w b (digit_of b)
step at (want_name u) b = name_begins u (column_of b)
step at (want_row c u) b = row_begins c u (digit_of b)
step at (in_row c r u) b = more_row at c r u b (digit_of b)
step at (due c cs st) b = meet c cs st b
step at (want_count mark c w) b = counted mark c w (digit_of b)

-- the tree, if the text may end here
abbrev pub finish : Tree → Around → Option Tree
finish t whole = some t
finish t (in_group w) = none
finish t (in_first w) = none
finish t (in_second u w) = none
finish t (in_third u v w) = none
finish t (in_lookup mark w) = none

abbrev pub end_held : Held → Option Tree
end_held h = finish (closed h.tree h.wait) (around h.wait)

abbrev pub end_name : Use → ℕ → Option Tree
end_name (as_factor w) c = end_held (hand (cell c) w)
end_name (as_first mark w) c = none

abbrev pub end : State → Option Tree
end (want w) = none
end (have h) = end_held h
end (in_number n w) = end_held (hand (number n) w)
end (want_name u) = none
end (want_row c u) = none
end (in_row c r u) = end_name u (cell_at c r)
end (due c cs st) = none
end (want_count mark c w) = none

-- a text is a tree, or goes wrong at a place
pub data Reading : Type 0 where
  reads : Tree → Reading
  fails : ℕ → Reading

abbrev pub ended : ℕ → Option Tree → Reading
ended at none = fails at
ended at (some t) = reads t

abbrev pub onward : ℕ → Option State → (State → Reading) → Reading
onward at none f = fails at
onward at (some st) f = f st

-- what the rest of a text comes to, from a place and a state on
unfoldable pub run : ℕ → State → List ℕ → Reading
run at st [] = ended at (end st)
run at st (b ∷ bs) = onward at (step at st b) (λ next. run (at + 1) next bs)

abbrev pub reading : List ℕ → Reading
reading text = run 0 (inside whole) text

abbrev pub verdict_of : Reading → Verdict Whole
verdict_of (reads t) = legal (meaning t)
verdict_of (fails place) = illegal place

-- what a text stands for
abbrev pub stands : List ℕ → Verdict Whole
stands text = verdict_of (reading text)

-- a text stands for a definition exactly if it is a formula that means it, and it goes wrong at a place exactly
-- if that is the length of its longest beginning that also begins a formula
pub record Right (text : List ℕ) : Type 0 where
  pub legal_if : (t : Tree) → Formula 0 text t → stands text ≡ legal (meaning t)
  pub legal_only : (d : Def Whole) → stands text ≡ legal d → (t : Tree) × Formula 0 text t × (d ≡ meaning t)
  pub illegal_if : (place : ℕ) → Longest Legal text place → stands text ≡ illegal place
  pub illegal_only : (place : ℕ) → stands text ≡ illegal place → Longest Legal text place

abbrev pub StandsRight : Type 0
StandsRight = (text : List ℕ) → Right text
