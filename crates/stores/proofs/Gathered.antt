-- The step of a loop that gathers listed cells into a set: what is gathered, and what is still listed. Assumes nothing.
use Rattle.std.proofs.Common.{◌≡◌, ℕ, zero, suc, ◌+◌, ◌<◌, ◌≤◌, Bool, true, false, cond, eqb, ◌≢◌, List, length, get_or, drop, set, replicate, sym, refl, ap, ◌∙◌, eqb-true}
use borrow.Author.Tests.{eqb-false}
use Rattle.std.proofs.lemmas.List.{at_drop_more, at_drop_all, get_or-set_same, get_or-set_other}
use Rattle.interfaces.specs.declared.cell.Cell.{Cell}
use Rattle.interfaces.specs.Cells.{number_of}
use Rattle.stores.specs.Sets.{listed}

-- the cells of a list are those of a set and of what is left of the list
abbrev pub Gathers : List Bool → List Cell → List Cell → Type 0
Gathers bits rest cells = (k : ℕ) → cond (get_or bits k false) true (listed rest k) ≡ listed cells k

-- no place of an empty set has a mark
pub unmarked : (n k : ℕ) → get_or (replicate n false) k false ≡ false
unmarked zero k = refl
unmarked (suc n) zero = refl
unmarked (suc n) (suc k) = unmarked n k

pub gathers_none : (n : ℕ) (cells : List Cell) → Gathers (replicate n false) cells cells
gathers_none n cells k = rw (unmarked n k) refl

both_true : (b : Bool) → cond b true true ≡ true
both_true true = refl
both_true false = refl

marked : (bits : List Bool) (n k : ℕ) (x : Bool) → n < length bits
    → cond (get_or (set bits n true) k false) true x ≡ cond (get_or bits k false) true (cond (eqb k n) true x)
marked bits n k x l = go (eqb k n) refl
  where
    go : (b : Bool) → eqb k n ≡ b → cond (get_or (set bits n true) k false) true x ≡ cond (get_or bits k false) true (cond (eqb k n) true x)
    go true e = rw e (rw (eqb-true k n e) (rw (get_or-set_same bits n true false l) (sym (both_true (get_or bits n false)))))
    go false e = let ne : k ≢ n = eqb-false k n e in rw e (rw (get_or-set_other bits n k true false ne) refl)

pub gathers_more : (bits : List Bool) (cells : List Cell) (i n : ℕ) (d : Cell) → i < length cells → n ≡ number_of (get_or cells i d) → n < length bits
    → Gathers bits (drop i cells) cells → Gathers (set bits n true) (drop (i + 1) cells) cells
gathers_more bits cells i n d l e w h k =
    marked bits n k (listed (drop (i + 1) cells) k) w
    ∙ ap (λ (m : ℕ). cond (get_or bits k false) true (cond (eqb k m) true (listed (drop (i + 1) cells) k))) e
    ∙ sym (at_drop_more (λ rest. cond (get_or bits k false) true (listed rest k)) cells i d l)
    ∙ h k

only : (b : Bool) → cond b true false ≡ b
only true = refl
only false = refl

pub gathers_all : (bits : List Bool) (cells : List Cell) (i : ℕ) → length cells ≤ i → Gathers bits (drop i cells) cells
    → (k : ℕ) → get_or bits k false ≡ listed cells k
gathers_all bits cells i l h k =
    sym (only (get_or bits k false)) ∙ sym (at_drop_all (λ rest. cond (get_or bits k false) true (listed rest k)) cells i l) ∙ h k
