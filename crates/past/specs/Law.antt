-- The law: when a past came rightly, that is, when what came of each call is what the past before it asks for.
-- It assumes the blank value, which cells are locked, what texts stand for, and how many traces of a cell are kept;
-- none of these changes.
use Rattle.std.specs.Prelude.{◌≡◌, ℕ, ◌<◌, Bool, true, ◌⊎◌, List, [], length, Ok, Err, Result}
use Rattle.std.proofs.Math.Option.{none, some}
use Rattle.interfaces.specs.Cells.{cell_count, text_limit, work_length}
use Rattle.interfaces.specs.Refusals.{Said, no, no_at}
use Rattle.interfaces.specs.Tasks.{Def, Verdict, legal, illegal}
use Rattle.past.specs.Afresh.{Afresh}
use Rattle.past.specs.Past.{Lent, Request, edit, define, clear, query, Call, refused, edited, defined, cleared, queried, request, about, Past, start, ◌▹◌, defs, state, Report}

module _ {M : Type 0} (locks : ℕ → Bool) (stands : List ℕ → Verdict M) where
  -- the table of refusals, its rows numbered from 0 in their order: `Concerns p q row said` if the cause of that row
  -- concerns the request `q` after the past `p`, and is told by `said`
  pub data Concerns (p : Past M) : Request M → (row : ℕ) → Said → Type 0 where
    -- a query is lent a list that is shorter than stated
    lent_little : {c : ℕ} {lent : Lent} → (lent.report < cell_count) ⊎ ((lent.chain < cell_count) ⊎ (lent.work < work_length))
        → Concerns p (query c lent) 0 (no 1)
    -- a cell that has a definition is edited
    has_definition : {c : ℕ} {given : Result M Said} {d : Def M} → defs p c ≡ some d → Concerns p (edit c given) 1 (no 2)
    -- a locked cell is edited or defined
    locked_edit : {c : ℕ} {given : Result M Said} → locks c ≡ true → Concerns p (edit c given) 2 (no 3)
    locked_define : {c : ℕ} {text : List ℕ} → locks c ≡ true → Concerns p (define c text) 2 (no 3)
    -- a text is empty, or too long
    bad_length : {c : ℕ} {text : List ℕ} → (length text ≡ 0) ⊎ (text_limit < length text) → Concerns p (define c text) 3 (no 5)
    -- a text is not in the language
    not_in_language : {c : ℕ} {text : List ℕ} {place : ℕ} → stands text ≡ illegal place → Concerns p (define c text) 4 (no_at 6 place)
    -- a cell without definition is cleared
    no_definition : {c : ℕ} → defs p c ≡ none → Concerns p (clear c) 5 (no 4)
    -- the bytes of an edit are no value
    no_value : {c : ℕ} {said : Said} → Concerns p (edit c (Err said)) 6 said

  -- a refusal is right if its cause concerns the request, and none of an earlier row does
  pub record Refusable (p : Past M) (q : Request M) (said : Said) : Type 0 where
    pub row : ℕ
    pub concerns : Concerns p q row said
    pub earliest : (earlier : ℕ) (other : Said) → earlier < row → ¬ Concerns p q earlier other

  -- acceptance is right if no cause concerns the request
  unfoldable pub Acceptable : Past M → Request M → Type 0
  Acceptable p q = (row : ℕ) (said : Said) → ¬ Concerns p q row said

module _ {M : Type 0} (blank : M) (locks : ℕ → Bool) (stands : List ℕ → Verdict M) (depth : ℕ) where
  -- a call came rightly: what was refused is rightly refused, and what was accepted rightly accepted; a definition is
  -- the one that its text stands for; a query has the log and the outcome of working out afresh on the empty path, and
  -- its report has the runs that doubt and kept traces ask for
  unfoldable pub Right : Past M → Call M → Type 0
  Right p (refused q said) = Refusable locks stands p q said
  Right p (edited c v) = Acceptable locks stands p (edit c (Ok v))
  Right p (defined c text d) = Acceptable locks stands p (define c text) × (stands text ≡ legal d)
  Right p (cleared c) = Acceptable locks stands p (clear c)
  Right p (queried c lent log o report) = Acceptable locks stands p (query c lent) × Afresh (state blank p) [] c log o × Report blank depth p [] log report

  -- a past is lawful if every call of it is about a cell and came rightly
  unfoldable pub Lawful : Past M → Type 0
  Lawful (start s) = Unit {0}
  Lawful (p ▹ k) = Lawful p × (about (request k) < cell_count) × Right p k
