-- What a text stands for, and that it agrees with the grammar.
use Rattle.std.specs.Prelude.{◌≡◌, ℕ, List}
use Rattle.interfaces.specs.Tasks.{Def, Verdict, legal, illegal}
use Rattle.text.specs.declared.Text.{Text}
use Rattle.definitions.specs.Longest.{Longest}
use Rattle.fragment_grammar.specs.Grammar.{Item, Reads, Legal}
use Rattle.fragment_grammar.specs.Meaning.{meaning}
use Rattle.fragment_grammar.specs.Reader.{Rows, row, astray, rows}

-- what a reading says of the text
abbrev pub verdict : Rows → Verdict Text
verdict (row items) = legal (meaning items)
verdict (astray place) = illegal place

-- what a text stands for
abbrev pub fragment_stands : List ℕ → Verdict Text
fragment_stands text = verdict (rows 0 0 text)

-- a text is read in one way
abbrev pub OneReading : Type 0
OneReading = (text : List ℕ) (items others : List Item) → Reads text items → Reads text others → items ≡ others

-- a text is legal exactly if it is a row of items, and then it means what they mean; it is illegal at a place
-- exactly if the place is the length of its longest beginning that begins a fragment
pub record Right (text : List ℕ) : Type 0 where
  pub reads_legal : (items : List Item) → Reads text items → fragment_stands text ≡ legal (meaning items)
  pub legal_reads : (d : Def Text) → fragment_stands text ≡ legal d → (items : List Item) × Reads text items × (d ≡ meaning items)
  pub illegal_longest : (place : ℕ) → fragment_stands text ≡ illegal place → Longest Legal text place
  pub longest_illegal : (place : ℕ) → Longest Legal text place → fragment_stands text ≡ illegal place

-- that holds of every text
abbrev pub StandsRight : Type 0
StandsRight = (text : List ℕ) → Right text
