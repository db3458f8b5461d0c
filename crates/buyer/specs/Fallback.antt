-- The fallback language: `10|F0` is the value of the cell 10, or, where that is 0, the value of the cell F0.
use Rattle.std.specs.Prelude.{ℕ, suc, ◌+◌, ◌-◌, ◌*◌, Bool, false, cond, List, [], ◌∷◌, length, ◌==◌, nat_le, nat_lt, slice_index}
use Rattle.interfaces.specs.Tasks.{asks, gives, faults, Def, Verdict, legal, illegal}
use Rattle.whole.specs.declared.Whole.{Whole}
use Rattle.whole.specs.Whole.{whole_blank, whole_alike}

-- a digit: `0` to `9`, or `A` to `F`
abbrev pub is_hex_lem : ℕ → Bool
is_hex_lem b = cond (nat_le b 57) (nat_le 48 b) (cond (nat_le 65 b) (nat_le b 70) false)

-- the value of a digit
abbrev pub hex_value_lem : ℕ → ℕ
hex_value_lem b = cond (nat_le b 57) (b - 48) (b - 55)

-- the number that two digits write
abbrev pub numbered : ℕ → ℕ → ℕ
numbered high low = hex_value_lem high * 16 + hex_value_lem low

-- a definition has five bytes, two digits, a bar and two digits: whether a byte may stand at a place
abbrev pub may_stand_lem : ℕ → ℕ → Bool
may_stand_lem place b = cond (place == 2) (b == 124) (cond (nat_lt place 5) (is_hex_lem b) false)

-- how many bytes of a text stand where they may, from the first on, which is at this place
abbrev pub right_from : ℕ → List ℕ → ℕ
right_from place [] = 0
right_from place (b ∷ bs) = cond (may_stand_lem place b) (suc (right_from (suc place) bs)) 0

-- a value that means 0 is not set
abbrev pub unset : Whole → Bool
unset w = whole_alike w whole_blank

-- asks for the first cell, then, if that is not set, for the second; if neither is, faults at the second
abbrev pub or_else : (first second : ℕ) → Def Whole
or_else first second [] = asks first
or_else first second (x ∷ []) = cond (unset x) (asks second) (gives x)
or_else first second (x ∷ y ∷ rest) = cond (unset x) (cond (unset y) (faults 40 3) (gives y)) (gives x)

-- the definition that five bytes write
abbrev pub written : List ℕ → Def Whole
written text = or_else (numbered (slice_index text 0) (slice_index text 1)) (numbered (slice_index text 3) (slice_index text 4))

-- what a text stands for: it is legal if it has five bytes and all stand where they may
abbrev pub fallback_stands : List ℕ → Verdict Whole
fallback_stands text = cond (length text == 5) (cond (right_from 0 text == 5) (legal (written text)) (illegal (right_from 0 text))) (illegal (right_from 0 text))
