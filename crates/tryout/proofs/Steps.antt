-- The steps of an alias. Assumes nothing.
use Rattle.std.proofs.Common.{◌≡◌, ◌<◌, List, [], ◌∷◌, map, length, get_or, Some, Option as Maybe, refl, ap, arith}
use Rattle.interfaces.specs.declared.cell.Cell.{Cell}
use Rattle.interfaces.specs.Cells.{number_of}
use Rattle.interfaces.specs.Tasks.{asks, gives, step_of}
use Rattle.tryout.specs.Alias.{alias_of}

module _ {V : Type 0} (canon : V → V) (blank : V) where
  pub asked : (o : Maybe Cell) (c : Cell) (answers : List V) → o ≡ Some c → length answers ≡ 0
      → asks (number_of c) ≡ step_of blank (alias_of o) (map canon answers)
  asked o c [] e z = rw e refl
  asked o c (v ∷ vs) e z = absurd (omega arith)

  pub given : (o : Maybe Cell) (c : Cell) (answers : List V) (v : V) → o ≡ Some c → 0 < length answers → v ≡ get_or answers 0 v
      → gives (canon v) ≡ step_of blank (alias_of o) (map canon answers)
  given o c [] v e l f = absurd (omega arith)
  given o c (w ∷ ws) v e l f = rw e (ap (λ x. gives (canon x)) f)
