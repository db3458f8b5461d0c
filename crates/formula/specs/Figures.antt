-- Worked figures.
use Rattle.std.specs.Prelude.{◌≡◌, ℕ, ◌-◌, List, [], ◌∷◌, ℤ, pos, neg_ℤ, codes}
use Rattle.interfaces.specs.Cells.{cell_count}
use Rattle.interfaces.specs.Tasks.{Act, asks, gives, faults, Verdict, legal, illegal}
use Rattle.names.specs.Names.{row_count}
use Rattle.whole.specs.declared.Whole.{Whole}
use Rattle.whole.specs.Whole.{whole_limit}
use Rattle.formula.specs.Reader.{stands}

-- a whole number
abbrev pub whole : ℤ → Whole
whole z = record { value = z }

-- the step of a legal text with these answers; an illegal one faults with 0
abbrev pub step_by : Verdict Whole → List Whole → Act Whole
step_by (legal d) answers = d answers
step_by (illegal place) answers = faults 0 place

-- the text comes to this step with these answers
abbrev pub Comes : List ℕ → List Whole → Act Whole → Type 0
Comes text answers act = step_by (stands text) answers ≡ act

-- the text goes wrong at this place
abbrev pub Wrong : List ℕ → ℕ → Type 0
Wrong text place = stands text ≡ illegal place

pub record SheetFigures : Type 0 where
  -- names
  pub last_of_A : Comes (codes "A16") [] (asks (row_count - 1))
  pub first_of_B : Comes (codes "B1") [] (asks row_count)
  pub last_of_all : Comes (codes "P16") [] (asks (cell_count - 1))
  -- places
  pub no_row_17 : Wrong (codes "A17") 2
  pub leading_zero : Wrong (codes "01") 1
  pub one_part : Wrong (codes "if(1)") 4
  pub open_end : Wrong (codes "2+") 2
  pub past_last_cell : Wrong (codes "sum(P16,2)") 8
  pub just_too_large : Wrong (codes "1000000001") 9
  pub too_large : Wrong (codes "2000000000") 9
  pub too_long : Wrong (codes "10000000000") 10
  -- values and faults
  pub quotient_of_minus : Comes (codes "-7/2") [] (gives (whole (neg_ℤ (pos 3))))
  pub remainder_of_minus : Comes (codes "-7%2") [] (gives (whole (neg_ℤ (pos 1))))
  pub by_zero : Comes (codes "7/0") [] (faults 12 1)
  pub sum_beyond : Comes (codes "1000000000+1") [] (faults 11 10)
  pub product_beyond : Comes (codes "31623*31623") [] (faults 11 5)
  pub not_worked_out : Comes (codes "if(0,1/0,5)") [] (gives (whole (pos 5)))
  pub no_such_cell : Comes (codes "at(256)") [] (faults 13 0)
  pub left_first : Comes (codes "1-2-3") [] (gives (whole (neg_ℤ (pos 4))))
  pub stacked_minus : Comes (codes "--1") [] (gives (whole (pos 1)))
  pub minus_after_times : Comes (codes "2*-3") [] (gives (whole (neg_ℤ (pos 6))))
  pub only_the_total : Comes (codes "sum(A1,3)") (whole (pos whole_limit) ∷ whole (pos whole_limit) ∷ whole (neg_ℤ (pos whole_limit)) ∷ []) (gives (whole (pos whole_limit)))
  pub asked_again : Comes (codes "A1+A1") (whole (pos 2) ∷ []) (asks 0)
