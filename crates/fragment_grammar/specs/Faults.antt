-- A fragment faults with 14 alone, so never with the numbers 16 and 17 of the engine.
use Rattle.std.specs.Prelude.{◌≡◌, ℕ, ◌+◌, Bool, true, false, cond, List, [], ◌∷◌, ◌++◌, length, nat_le}
use Rattle.std.proofs.Common.{arith}
use Rattle.interfaces.specs.Tasks.{Act, asks, gives, faults, Own}
use Rattle.text.specs.Text.{text_longest}
use Rattle.text.specs.declared.Text.{Text}
use Rattle.fragment_grammar.specs.Grammar.{Item, written}
use Rattle.fragment_grammar.specs.Meaning.{Brought, lacks, brings, brought, step_at, runs}
use Rattle.fragment_grammar.specs.Reader.{Rows, row, astray, rows}
use Rattle.fragment_grammar.specs.Stands.{verdict, fragment_stands}

-- a step with no fault but 14
abbrev pub Only14 : Act Text → Type 0
Only14 a = (n m : ℕ) → a ≡ faults n m → n ≡ 14

only_asks : (c : ℕ) → Only14 (asks c)
only_asks c n m e = absurd (let z : ◌≡◌ {A = ℕ} 0 1 = cc in omega arith)

only_gives : (t : Text) → Only14 (gives t)
only_gives t n m e = absurd (let z : ◌≡◌ {A = ℕ} 0 1 = cc in omega arith)

only_cond : (b : Bool) (mark : ℕ) (a : Act Text) → Only14 a → Only14 (cond b a (faults 14 mark))
only_cond true mark a h n m e = h n m e
only_cond false mark a h n m e = cc

only_step : (at : ℕ) (before : List ℕ) (b : Brought) (go : List ℕ → List Text → Act Text) → ((both : List ℕ) (left : List Text) → Only14 (go both left)) → Only14 (step_at at before b go)
only_step at before (lacks c) go h = only_asks c
only_step at before (brings new left) go h = only_cond (nat_le (length before + length new) text_longest) at (go (before ++ new) left) (h (before ++ new) left)

pub only_runs : (at : ℕ) (before : List ℕ) (items : List Item) (answers : List Text) → Only14 (runs at before items answers)
only_runs at before [] answers = only_gives _
only_runs at before (i ∷ items) answers = only_step at before (brought i answers) _ (λ both left. only_runs (at + length (written i)) both items left)

own_row : (r : Rows) → Own (verdict r)
own_row (row items) = λ answers n m e. let f = only_runs 0 [] items answers n m e in (omega arith, omega arith)
own_row (astray place) = tt

pub fragment_own : (text : List ℕ) → Own (fragment_stands text)
fragment_own text = own_row (rows 0 0 text)
