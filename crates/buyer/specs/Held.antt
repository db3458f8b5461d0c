-- What the language holds, and what its reader answers.
use Rattle.std.specs.Prelude.{ℕ, Some, None, Ok, Err, Option as Maybe, Result}
use Rattle.std.proofs.Math.Option.{Option, none, some}
use Rattle.interfaces.specs.Cells.{number_of}
use Rattle.interfaces.specs.Tasks.{Def, Verdict, legal, illegal}
use Rattle.whole.specs.declared.Whole.{Whole}
use Rattle.buyer.specs.declared.language.Fallback.{Fallback}
use Rattle.buyer.specs.Fallback.{or_else}

-- the definition that two cells make
abbrev pub means_of : Fallback → Def Whole
means_of f = or_else (number_of f.first) (number_of f.second)

-- the definition that is held for a cell, if there is one
abbrev pub held_means : Maybe Fallback → Option (Def Whole)
held_means None = none
held_means (Some f) = some (means_of f)

-- the verdict that the reader's answer is
abbrev pub verdict_of : Result Fallback ℕ → Verdict Whole
verdict_of (Ok f) = legal (means_of f)
verdict_of (Err place) = illegal place
