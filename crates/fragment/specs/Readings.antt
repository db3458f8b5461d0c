-- What the answers of the readers mean.
use Rattle.std.specs.Prelude.{ℕ, ◌+◌, Ok, Err, Result}
use Rattle.interfaces.specs.Cells.{number_of}
use Rattle.fragment_grammar.specs.Grammar.{Item, plain, insert, choice}
use Rattle.fragment_grammar.specs.Reader.{Read, got, stuck, Rows, row, astray}
use Rattle.fragment.specs.declared.item.Item.{Item as Held}
use Rattle.fragment.specs.declared.item.Item.TheVariants.{Plain, Insert, Choice}

-- the item that is meant
abbrev pub item_means : Held → Item
item_means (Plain b) = plain b
item_means (Insert c) = insert (number_of c)
item_means (Choice c n m) = choice (number_of c) (number_of n) (number_of m)

-- a reader answers what it read and the place that follows, or the place where the text goes wrong
abbrev pub read_means : {X A : Type 0} → (X → A) → Result (X × ℕ) ℕ → Result (A × ℕ) ℕ
read_means means (Ok p) = Ok (means p.0, p.1)
read_means means (Err place) = Err place

-- what was read from the place `at` on
abbrev pub placed : {A : Type 0} → ℕ → Read A → Result (A × ℕ) ℕ
placed at (got a w) = Ok (a, at + w)
placed at (stuck p) = Err (at + p)

-- the answer of a reader of whole rows
abbrev pub row_answer : Rows → Result (Unit {0}) ℕ
row_answer (row items) = Ok tt
row_answer (astray place) = Err place
