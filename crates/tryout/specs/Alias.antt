-- The smallest language with an ask: a text of one byte stands for the value of the cell of that number.
use Rattle.std.specs.Prelude.{ℕ, List, [], ◌∷◌, Some, None, Option as Maybe}
use Rattle.std.proofs.Math.Option.{Option, none, some}
use Rattle.interfaces.specs.declared.cell.Cell.{Cell}
use Rattle.interfaces.specs.Cells.{number_of}
use Rattle.interfaces.specs.Tasks.{asks, gives, Def, Verdict, legal, illegal}

-- asks for the cell, then gives its value
abbrev pub alias : {M : Type 0} → ℕ → Def M
alias n [] = asks n
alias n (v ∷ vs) = gives v

-- a text of one byte is legal; one byte begins every legal text, and no more does
abbrev pub alias_stands : {M : Type 0} → List ℕ → Verdict M
alias_stands [] = illegal 0
alias_stands (b ∷ []) = legal (alias b)
alias_stands (b ∷ c ∷ bs) = illegal 1

abbrev pub alias_of : {M : Type 0} → Maybe Cell → Option (Def M)
alias_of None = none
alias_of (Some c) = some (alias (number_of c))
