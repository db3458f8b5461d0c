-- What a byte can be in a formula.
use Rattle.std.specs.Prelude.{ℕ, ◌+◌, ◌-◌, cond, ◌==◌, nat_le, nat_lt}
use Rattle.std.proofs.Math.Option.{Option, none, some}
use Rattle.names.specs.Names.{column_count}
use Rattle.formula.specs.declared.byte.Operator.TheVariants.{Plus, Minus, Times, Over, Modulo}
use Rattle.formula.specs.declared.byte.Link.{Link}
use Rattle.formula.specs.declared.byte.Link.TheVariants.{Weak, Strong, Loose}
use Rattle.formula.specs.declared.byte.Start.{Start}
use Rattle.formula.specs.declared.byte.Start.TheVariants.{Negation, Group, Choice, Lookup, Total, Digit, Column, Other}

-- `+` and `-` join terms; `*`, `/` and `%` join factors
abbrev pub link_of : ℕ → Link
link_of b =
    cond (b == 43) (Weak Plus)
    (cond (b == 45) (Weak Minus)
    (cond (b == 42) (Strong Times)
    (cond (b == 47) (Strong Over)
    (cond (b == 37) (Strong Modulo) Loose))))

-- `0` to `9`
abbrev pub digit_of : ℕ → Option ℕ
digit_of b = cond (nat_le 48 b) (cond (nat_lt b 58) (some (b - 48)) none) none

-- the letter of a column
abbrev pub column_of : ℕ → Option ℕ
column_of b = cond (nat_le 65 b) (cond (nat_lt b (65 + column_count)) (some (b - 65)) none) none

abbrev pub start_column : Option ℕ → Start
start_column none = Other
start_column (some c) = Column c

abbrev pub start_digit : Option ℕ → Start → Start
start_digit none s = s
start_digit (some d) s = Digit d

-- `-`, `(`, and the first letters of `if`, `at` and `sum`; a digit; a column
abbrev pub start_of : ℕ → Start
start_of b =
    cond (b == 45) Negation
    (cond (b == 40) Group
    (cond (b == 105) Choice
    (cond (b == 97) Lookup
    (cond (b == 115) Total
    (start_digit (digit_of b) (start_column (column_of b)))))))
