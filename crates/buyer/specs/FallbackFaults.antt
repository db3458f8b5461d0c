-- The only fault of a fallback is 40.
use Rattle.std.specs.Prelude.{◌≡◌, ℕ, Bool, true, false, cond, List, [], ◌∷◌, length, ◌==◌}
use Rattle.std.proofs.Common.{arith}
use Rattle.interfaces.specs.Tasks.{Act, asks, gives, faults, Def, legal, illegal, Own, OwnFaults}
use Rattle.whole.specs.declared.Whole.{Whole}
use Rattle.buyer.specs.Fallback.{unset, or_else, written, right_from, fallback_stands}

asking : (t : Bool) (c : ℕ) (x : Whole) (n m : ℕ) → ◌≡◌ {A = Act Whole} (cond t (asks c) (gives x)) (faults n m) → n ≡ 40
asking true c x n m e = cc
asking false c x n m e = cc

choosing : (t u : Bool) (x y : Whole) (n m : ℕ) → ◌≡◌ {A = Act Whole} (cond t (cond u (faults 40 3) (gives y)) (gives x)) (faults n m) → n ≡ 40
choosing true true x y n m e = cc
choosing true false x y n m e = cc
choosing false u x y n m e = cc

only : (first second : ℕ) (answers : List Whole) (n m : ℕ) → or_else first second answers ≡ faults n m → n ≡ 40
only first second [] n m e = cc
only first second (x ∷ []) n m e = asking (unset x) second x n m e
only first second (x ∷ y ∷ rest) n m e = choosing (unset x) (unset y) x y n m e

own : (first second : ℕ) → OwnFaults (or_else first second)
own first second answers n m e = let f = only first second answers n m e in (λ g. omega arith, λ g. omega arith)

judged : (s t : Bool) (d : Def Whole) (place : ℕ) → OwnFaults d → Own (cond s (cond t (legal d) (illegal place)) (illegal place))
judged true true d place h = h
judged true false d place h = tt
judged false t d place h = tt

pub fallback_own : (text : List ℕ) → Own (fallback_stands text)
fallback_own text = judged (length text == 5) (right_from 0 text == 5) (written text) (right_from 0 text) (own _ _)
