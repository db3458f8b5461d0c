-- The grammar of formulas: which texts are formulas, and the tree that each one has.
use Rattle.std.specs.Prelude.{◌≡◌, ℕ, ◌+◌, ◌<◌, ◌≤◌, List, [], ◌∷◌, ◌++◌, length, codes, decimal}
use Rattle.interfaces.specs.Cells.{cell_count}
use Rattle.names.specs.Names.{name_of}
use Rattle.whole.specs.Whole.{whole_limit}
use Rattle.formula.specs.declared.byte.Operator.{Operator}
use Rattle.formula.specs.declared.byte.Link.TheVariants.{Weak, Strong}
use Rattle.formula.specs.Bytes.{link_of}

-- a formula; a mark is the place of an operator, of `at` or of `sum` in the text
pub data Tree : Type 0 where
  number : ℕ → Tree
  cell : ℕ → Tree
  negated : Tree → Tree
  joined : Operator → (mark : ℕ) → Tree → Tree → Tree
  choice : Tree → Tree → Tree → Tree
  lookup : (mark : ℕ) → Tree → Tree
  total : (mark first count : ℕ) → Tree

-- the most cells that `sum` takes
abbrev pub sum_limit : ℕ
sum_limit = 8

mutual
  -- `Formula at s t`: the bytes `s`, from the place `at` on, are a formula with the tree `t`: terms joined, the left ones first
  pub data Formula : ℕ → List ℕ → Tree → Type 0 where
    a_term : {at : ℕ} {s : List ℕ} {t : Tree} → Term at s t → Formula at s t
    a_sum : {at : ℕ} {s s' : List ℕ} {t t' : Tree} (b : ℕ) (o : Operator) → link_of b ≡ Weak o → Formula at s t → Term (at + length s + 1) s' t'
        → Formula at (s ++ b ∷ s') (joined o (at + length s) t t')

  -- factors joined, the left ones first
  pub data Term : ℕ → List ℕ → Tree → Type 0 where
    a_factor : {at : ℕ} {s : List ℕ} {t : Tree} → Factor at s t → Term at s t
    a_product : {at : ℕ} {s s' : List ℕ} {t t' : Tree} (b : ℕ) (o : Operator) → link_of b ≡ Strong o → Term at s t → Factor (at + length s + 1) s' t'
        → Term at (s ++ b ∷ s') (joined o (at + length s) t t')

  pub data Factor : ℕ → List ℕ → Tree → Type 0 where
    a_number : {at : ℕ} (n : ℕ) → n ≤ whole_limit → Factor at (decimal n) (number n)
    a_cell : {at : ℕ} (c : ℕ) → c < cell_count → Factor at (name_of c) (cell c)
    a_minus : {at : ℕ} {s : List ℕ} {t : Tree} → Factor (at + 1) s t → Factor at (45 ∷ s) (negated t)
    a_group : {at : ℕ} {s : List ℕ} {t : Tree} → Formula (at + 1) s t → Factor at (40 ∷ (s ++ 41 ∷ [])) t
    a_choice : {at : ℕ} {s s' s'' : List ℕ} {t t' t'' : Tree}
        → Formula (at + 3) s t → Formula (at + 3 + length s + 1) s' t' → Formula (at + 3 + length s + 1 + length s' + 1) s'' t''
        → Factor at (codes "if(" ++ (s ++ 44 ∷ (s' ++ 44 ∷ (s'' ++ 41 ∷ [])))) (choice t t' t'')
    a_lookup : {at : ℕ} {s : List ℕ} {t : Tree} → Formula (at + 3) s t → Factor at (codes "at(" ++ (s ++ 41 ∷ [])) (lookup at t)
    a_total : {at : ℕ} (c d : ℕ) → 0 < d → d ≤ sum_limit → c + d ≤ cell_count
        → Factor at (codes "sum(" ++ (name_of c ++ 44 ∷ (48 + d) ∷ 41 ∷ [])) (total at c d)

-- a legal text is a formula from its first byte to its last
abbrev pub Legal : List ℕ → Type 0
Legal text = (t : Tree) × Formula 0 text t

-- a text is a formula in one way only
abbrev pub OneReading : Type 0
OneReading = (text : List ℕ) (t u : Tree) → Formula 0 text t → Formula 0 text u → t ≡ u
