-- What a row of items does: it asks for cells and puts a text together.
use Rattle.std.specs.Prelude.{ℕ, ◌+◌, cond, List, [], ◌∷◌, ◌++◌, length, ◌==◌, nat_le}
use Rattle.interfaces.specs.Tasks.{Act, asks, gives, faults, Def}
use Rattle.text.specs.Text.{text_longest, text_means, text_of}
use Rattle.text.specs.declared.Text.{Text}
use Rattle.fragment_grammar.specs.Grammar.{Item, plain, insert, choice, written}

-- what an item comes to with the answers that are left: it lacks the answer for a cell, or it brings bytes and
-- leaves the answers that it did not use
pub data Brought : Type 0 where
  lacks : (cell : ℕ) → Brought
  brings : (bytes : List ℕ) (left : List Text) → Brought

-- the cell that a text chooses: the first of the two, or the second if the text is empty
abbrev pub chosen : Text → ℕ → ℕ → ℕ
chosen t n m = cond (length (text_means t) == 0) m n

-- each cell is asked for anew; a choice asks for two cells, one after the other
abbrev pub brought : Item → List Text → Brought
brought (plain b) answers = brings (b ∷ []) answers
brought (insert c) [] = lacks c
brought (insert c) (t ∷ left) = brings (text_means t) left
brought (choice c n m) [] = lacks c
brought (choice c n m) (t ∷ []) = lacks (chosen t n m)
brought (choice c n m) (t ∷ u ∷ left) = brings (text_means u) left

-- the step at an item that stands at the place `at`, behind the bytes `before`: it asks, or faults with 14 if the
-- bytes are too many for a text, or goes on with all of them
abbrev pub step_at : ℕ → List ℕ → Brought → (List ℕ → List Text → Act Text) → Act Text
step_at at before (lacks c) go = asks c
step_at at before (brings new left) go = cond (nat_le (length before + length new) text_longest) (go (before ++ new) left) (faults 14 at)

-- the step of the items from the place `at` on, behind the bytes `before`
abbrev pub runs : ℕ → List ℕ → List Item → Def Text
runs at before [] answers = gives (text_of before)
runs at before (i ∷ items) answers = step_at at before (brought i answers) (λ both left. runs (at + length (written i)) both items left)

-- what a fragment of these items means
abbrev pub meaning : List Item → Def Text
meaning items = runs 0 [] items
