-- What the steps of a text mean.
use Rattle.std.specs.Prelude.{◌≡◌, ℕ, ◌+◌, ◌<◌, ◌≤◌, List, ◌++◌, length, drop, Some, None, Option, Ok, Err, Result}
use Rattle.interfaces.specs.Cells.{number_of}
use Rattle.interfaces.specs.Tasks.{Act}
use Rattle.text.specs.Text.{text_longest, text_means}
use Rattle.text.specs.declared.Text.{Text}
use Rattle.fragment_grammar.specs.Grammar.{Item}
use Rattle.fragment_grammar.specs.Meaning.{Brought, lacks, brings, runs}
use Rattle.fragment_grammar.specs.Reader.{row, rows}
use Rattle.fragment.specs.declared.run.Stop.{Stop}
use Rattle.fragment.specs.declared.run.Stop.TheVariants.{Asks, Overflows}

-- a text that grew, or none where it grew too long
abbrev pub joined_as : Option Text → ℕ → Result (Text × ℕ) Stop
joined_as (Some t) used = Ok (t, used)
joined_as None used = Err Overflows

-- what an item makes of the bytes that stand already, if it comes to `b` with these answers: it asks, takes them
-- past 32, or comes behind them with so many answers used
abbrev pub Grew : Brought → List ℕ → List Text → Result (Text × ℕ) Stop → Type 0
Grew b before answers (Err (Asks c)) = b ≡ lacks (number_of c)
Grew b before answers (Err Overflows) =
    (new : List ℕ) × (left : List Text) × (b ≡ brings new left) × (text_longest < length before + length new)
Grew b before answers (Ok p) =
    (new : List ℕ) × (b ≡ brings new (drop p.1 answers)) × (length before + length new ≤ text_longest) × (text_means p.0 ≡ before ++ new) × (p.1 ≤ length answers) × (p.1 ≤ 2)

-- the step of a text from the place `at` on, if it can be read from there
abbrev pub RunsAs : List ℕ → ℕ → List ℕ → List Text → Act Text → Type 0
RunsAs text at before answers act = (items : List Item) → rows at 0 (drop at text) ≡ row items → act ≡ runs at before items answers
