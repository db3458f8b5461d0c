-- What a script prints, from its lines. `state` has the value of each cell, `written` the bytes of a value, and
-- `unread` is the number of the refusal of bytes that are no written value.
use Rattle.std.specs.Prelude.{◌≡◌, ℕ, ◌<◌, ◌≤◌, Bool, true, false, List, [], ◌++◌, length, Ok, Err, Result, ◌≢◌}
use Rattle.interfaces.specs.Cells.{but}
use Rattle.interfaces.specs.Refusals.{Said, no}
use Rattle.whole.specs.declared.Whole.{Whole}
use Rattle.text.specs.declared.Text.{Text as TextValue}
use Rattle.whole.specs.Whole.{whole_blank, written_whole}
use Rattle.text.specs.Text.{text_blank, text_means}
use Rattle.answers.specs.Answers.{ok_line, refusal_line, value_line}
use Rattle.answers.specs.Fronts.{line_answer, line_left}
use Rattle.script.specs.declared.lines.Kind.{Kind}
use Rattle.script.specs.declared.lines.Kind.TheVariants.{Sheet, Text}
use Rattle.script.specs.declared.lines.Depth.{Depth}
use Rattle.script.specs.Lines.{script_limit, line_limit, Cut, sets, gets, Reads, Unread, Opens}

-- the most bytes of an answer line
abbrev pub answer_limit : ℕ
answer_limit = 1100

-- the answer to a line that changes something
abbrev pub line_of_answer : Result (Unit {0}) Said → List ℕ
line_of_answer (Ok u) = ok_line
line_of_answer (Err s) = refusal_line s

module _ {V : Type 0} (written : V → List ℕ) (unread : ℕ) (locked : ℕ → Bool) where
  -- what giving a cell the value that is written so answers and leaves
  pub data Edited (state : ℕ → V) (c : ℕ) (bytes : List ℕ) : Result (Unit {0}) Said → (ℕ → V) → Type 0 where
    held : locked c ≡ true → Edited state c bytes (Err (no 3)) state
    unfit : locked c ≡ false → ((v : V) → written v ≢ bytes) → Edited state c bytes (Err (no unread)) state
    taken : (v : V) → locked c ≡ false → written v ≡ bytes → Edited state c bytes (Ok tt) (but c v state)

  -- what one line prints and leaves
  pub data Answered (state : ℕ → V) (line : List ℕ) : List ℕ → (ℕ → V) → Type 0 where
    refused : (s : Said) → Unread line s → Answered state line (refusal_line s) state
    edited : (c : ℕ) (bytes : List ℕ) (r : Result (Unit {0}) Said) (after : ℕ → V) → length line ≤ line_limit
        → Reads line (sets c bytes) → Edited state c bytes r after → Answered state line (line_of_answer r) after
    shown : (c : ℕ) → length line ≤ line_limit → Reads line (gets c) → Answered state line (value_line c (written (state c))) state

  -- one line was answered in a buffer: its answer stands at the front, and is short
  pub record Wrote (state : ℕ → V) (line buffer : List ℕ) (r : Result ℕ Said) (left : List ℕ) (after : ℕ → V) : Type 0 where
    pub out : List ℕ
    pub answered : Answered state line out after
    pub short : length out ≤ 39
    pub answer_is : r ≡ line_answer out buffer
    pub left_is : left ≡ line_left out buffer

  -- what the lines that are left print, one after another
  pub data Session : (ℕ → V) → List ℕ → List ℕ → Type 0 where
    over : {state : ℕ → V} → Session state [] []
    goes : {state after : ℕ → V} {bytes line rest out more : List ℕ} → Cut bytes line rest → Answered state line out after
        → Session after rest more → Session state bytes (out ++ more)

-- what the lines behind a first line print: a table of blanks of the kind that it names, with no cell locked
abbrev pub SessionOf : Kind → List ℕ → List ℕ → Type 0
SessionOf Sheet = Session {V = Whole} (λ w. written_whole w.value) 7 (λ _. false) (λ _. whole_blank)
SessionOf Text = Session {V = TextValue} text_means 8 (λ _. false) (λ _. text_blank)

-- what a whole script prints
pub data Transcript (input : List ℕ) : List ℕ → Type 0 where
  long : script_limit < length input → Transcript input (refusal_line (no 21))
  unopened : length input ≤ script_limit → ((first rest : List ℕ) (k : Kind) (d : Depth) → Cut input first rest → Opens first k d → ⊥)
      → Transcript input (refusal_line (no 20))
  opened : (k : Kind) (d : Depth) {first rest out : List ℕ} → length input ≤ script_limit → Cut input first rest → Opens first k d
      → SessionOf k rest out → Transcript input (ok_line ++ out)

-- a script prints one thing only
abbrev pub OneTranscript : Type 0
OneTranscript = (input o p : List ℕ) → Transcript input o → Transcript input p → o ≡ p
