-- What a language means: definitions, their steps, and what a text stands for.
use Rattle.std.specs.Prelude.{◌≡◌, ℕ, cond, ◌≢◌, List, length, Ok, Err, Result, nat_le, nat_lt}
use Rattle.std.proofs.Math.Option.{Option, none, some}
use Rattle.interfaces.specs.declared.step.Step.{Step}
use Rattle.interfaces.specs.declared.step.Step.TheVariants.{Ask, Give, Fault}
use Rattle.interfaces.specs.Cells.{text_limit, number_of, but}
use Rattle.interfaces.specs.Refusals.{Said, no, no_at}

-- one step of a task: it asks for a cell, gives a value, or faults with a number and a mark
pub data Act (M : Type 0) : Type 0 where
  asks : ℕ → Act M
  gives : M → Act M
  faults : (number mark : ℕ) → Act M

-- a definition fixes the step from the answers so far
abbrev pub Def : Type 0 → Type 0
Def M = List M → Act M

-- what an answered step means; `canon` gives a value's normal form
abbrev pub step_means : {V : Type 0} → (V → V) → Step V → Act V
step_means canon (Ask c) = asks (number_of c)
step_means canon (Give v) = gives (canon v)
step_means canon (Fault f) = faults f.number f.mark

-- the step of a cell; one without definition gives the blank
abbrev pub step_of : {M : Type 0} → M → Option (Def M) → List M → Act M
step_of blank none answers = gives blank
step_of blank (some d) answers = d answers

-- 16 and 17 are the engine's own fault numbers: no definition faults with them
abbrev pub OwnFaults : {M : Type 0} → Def M → Type 0
OwnFaults {M} d = (answers : List M) (n m : ℕ) → d answers ≡ faults n m → (n ≢ 16) × (n ≢ 17)

-- a text stands for a definition, or is not in the language; then the place is the length of its
-- longest beginning that also begins some legal text
pub data Verdict (M : Type 0) : Type 0 where
  legal : Def M → Verdict M
  illegal : (place : ℕ) → Verdict M

-- a legal text stands for a definition with faults of its own
abbrev pub Own : {M : Type 0} → Verdict M → Type 0
Own (legal d) = OwnFaults d
Own (illegal place) = Unit {0}

abbrev pub judged : {M : Type 0} → Verdict M → Result (Def M) Said
judged (legal d) = Ok d
judged (illegal place) = Err (no_at 6 place)

-- what placing a text comes to: 5 for a length outside 1 to 48, else what the text stands for
abbrev pub placing : {M : Type 0} → (List ℕ → Verdict M) → List ℕ → Result (Def M) Said
placing stands text = cond (nat_lt 0 (length text)) (cond (nat_le (length text) text_limit) (judged (stands text)) (Err (no 5))) (Err (no 5))

abbrev pub answer : {A E : Type 0} → Result A E → Result (Unit {0}) E
answer (Ok a) = Ok tt
answer (Err e) = Err e

-- the definitions after a placing at the cell `c`: the placed one there, or all as they were
abbrev pub after_placing : {M : Type 0} → Result (Def M) Said → ℕ → (ℕ → Option (Def M)) → ℕ → Option (Def M)
after_placing (Ok d) c defs k = but c (some d) defs k
after_placing (Err e) c defs k = defs k
