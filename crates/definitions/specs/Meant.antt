-- What memory means to a language. Memory may hold anything when it is lent, so a text that is not in the
-- language means no definition.
use Rattle.std.specs.Prelude.{ℕ, List, [], ◌∷◌, Ok, Err, Result}
use Rattle.std.proofs.Math.Option.{Option, none, some}
use Rattle.interfaces.specs.Tasks.{Def, Verdict, legal, illegal}

-- the definition of a legal text
abbrev pub definition_in : {M : Type 0} → Verdict M → Option (Def M)
definition_in (legal d) = some d
definition_in (illegal place) = none

-- the definition that a held text means: the empty text means none
abbrev pub meant : {M : Type 0} → (List ℕ → Verdict M) → List ℕ → Option (Def M)
meant stands [] = none
meant stands (b ∷ bs) = definition_in (stands (b ∷ bs))

-- what a verdict answers: nothing for a legal text, else the place where it goes wrong
abbrev pub ruled : {M : Type 0} → Verdict M → Result (Unit {0}) ℕ
ruled (legal d) = Ok tt
ruled (illegal place) = Err place
