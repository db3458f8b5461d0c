-- The numbers of the faults of formulas.
use Rattle.std.specs.Prelude.{ℕ}
use Rattle.sheet_work.specs.declared.wrong.Wrong.{Wrong}
use Rattle.sheet_work.specs.declared.wrong.Wrong.TheVariants.{BeyondLimits, DivisorZero, NoSuchCell}

abbrev pub wrong_number : Wrong → ℕ
wrong_number BeyondLimits = 11
wrong_number DivisorZero = 12
wrong_number NoSuchCell = 13
