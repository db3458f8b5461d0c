-- Cells in lists.
use Rattle.std.proofs.Common.{◌≡◌, Bool, true, false, T, ◌||◌, List, [], ◌∷◌, map, sym, refl, subst}
use Rattle.std.proofs.Math.Facts.{eqb_yes, yes_eqb}
use Rattle.std.specs.Prelude.{nat_eq}
use Rattle.std.specs.List.{list_any}
use Rattle.interfaces.specs.declared.cell.Cell.{Cell}
use Rattle.interfaces.specs.Cells.{number_of}
use Rattle.past.specs.Afresh.{In, first, later}

-- a test for a cell finds it exactly if it is in the list
pub in_any : (x : Cell) (l : List Cell) → T (list_any (λ y. nat_eq y.0 x.0) l) → In (number_of x) (map number_of l)
in_any x [] h = absurd h
in_any x (y ∷ l) h = go (nat_eq y.0 x.0) refl (in_any x l) h
  where
    go : (b : Bool) → nat_eq y.0 x.0 ≡ b → (T (list_any (λ z. nat_eq z.0 x.0) l) → In (number_of x) (map number_of l)) → T (b || list_any (λ z. nat_eq z.0 x.0) l) → In (number_of x) (map number_of (y ∷ l))
    go true e more h = first (sym (eqb_yes (subst T (sym e) tt)))
    go false e more h = later (more h)

pub any_in : (x : Cell) (l : List Cell) → In (number_of x) (map number_of l) → T (list_any (λ y. nat_eq y.0 x.0) l)
any_in x [] o = elim o [ ]
any_in x (y ∷ l) o = go (nat_eq y.0 x.0) refl (any_in x l) o
  where
    go : (b : Bool) → nat_eq y.0 x.0 ≡ b → (In (number_of x) (map number_of l) → T (list_any (λ z. nat_eq z.0 x.0) l)) → In (number_of x) (map number_of (y ∷ l)) → T (b || list_any (λ z. nat_eq z.0 x.0) l)
    go true e more o = tt
    go false e more (first q) = absurd (subst T e (yes_eqb (sym q)))
    go false e more (later o) = more o
