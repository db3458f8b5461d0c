-- What the moves of a query come to.
use Rattle.std.specs.Prelude.{◌≡◌, ℕ, ◌+◌, ◌<◌, ◌≤◌, Bool, true, false, cond, List, map, length, Some, None, Ok, Err, Option as Maybe, Result, nat_lt, slice_set}
use Rattle.interfaces.specs.declared.cell.Cell.{Cell}
use Rattle.interfaces.specs.Cells.{ask_limit, number_of}
use Rattle.interfaces.specs.Tasks.{Act, asks, gives, faults}
use Rattle.interfaces.specs.Traces.{Planned, runs, keeps, next, recording, after_recording}
use Rattle.view.specs.View.{View}
use Rattle.midway.specs.Midway.{Ended}
use Rattle.moves.specs.declared.asks.AskFault.{AskFault}
use Rattle.moves.specs.declared.asks.AskFault.TheVariants.{Circle, NinthAsk}
use Rattle.moves.specs.declared.answer.Fault.{Fault}
use Rattle.moves.specs.declared.answer.Layer.TheVariants.{Engine, Language}
use Rattle.moves.specs.declared.answer.Located.{Located}
use Rattle.moves.specs.declared.answer.Ran.{Ran}
use Rattle.moves.specs.declared.report.Report.{Report}
use Rattle.moves.specs.declared.turns.Turn.{Turn}
use Rattle.moves.specs.declared.turns.Turn.TheVariants.{Keep, Begin, Give, Ask}

-- what a cell in doubt does next: it keeps a result, begins its run, has a value from it, asks for a cell, or faults
pub data Move (V : Type 0) : Type 0 where
  retains : V → Move V
  begins : Move V
  yields : V → Move V
  wants : ℕ → Move V
  fails : Fault → Move V

-- so its plan says, while it does not run
abbrev pub plan_move : {V : Type 0} → Planned V → Move V
plan_move runs = begins
plan_move (keeps v) = retains v
plan_move (next a) = wants a

-- and so its step says, while it runs; a fault is located at the cell, with the length of the chain
abbrev pub step_move : {V : Type 0} → Cell → (chain : ℕ) → Act V → Move V
step_move cell chain (asks a) = wants a
step_move cell chain (gives v) = yields v
step_move cell chain (faults n m) = fails (record { number = n; mark = m; cell = cell; layer = Language; chain = chain })

abbrev pub move_of : {V : Type 0} → Cell → (chain : ℕ) → (running : Bool) → Planned V → Act V → Move V
move_of cell chain true plan step = step_move cell chain step
move_of cell chain false plan step = plan_move plan

-- what an answered turn means; `canon` gives a value's normal form
abbrev pub turn_means : {V : Type 0} → (V → V) → Result (Turn V) Fault → Move V
turn_means canon (Ok (Keep v)) = retains (canon v)
turn_means canon (Ok Begin) = begins
turn_means canon (Ok (Give v)) = yields (canon v)
turn_means canon (Ok (Ask a)) = wants (number_of a)
turn_means canon (Err f) = fails f

-- so it is with a language's fault
abbrev pub located_means : {V : Type 0} → (V → V) → Result (Turn V) Located → Move V
located_means canon (Ok t) = turn_means canon (Ok t)
located_means canon (Err l) = fails (record { number = l.fault.number; mark = l.fault.mark; cell = l.cell; layer = Language; chain = l.chain })

-- the numbers of the engine's own faults
abbrev pub fault_number : AskFault → ℕ
fault_number Circle = 16
fault_number NinthAsk = 17

-- such a fault of `cell`, which asked for the cell of number `wanted`
abbrev pub ask_fault : AskFault → Cell → (wanted chain : ℕ) → Fault
ask_fault a cell wanted chain = record { number = fault_number a; mark = wanted; cell = cell; layer = Engine; chain = chain }

-- what an ask comes to after `count` others, for a cell that is in doubt and on the path or not: the ninth faults, else
-- one that closes a circle
abbrev pub AskFaults : (count : ℕ) → (doubted on : Type 0) → Result (Unit {0}) AskFault → Type 0
AskFaults count doubted on (Ok _) = (count < ask_limit) × (doubted → on → ⊥)
AskFaults count doubted on (Err NinthAsk) = ask_limit ≤ count
AskFaults count doubted on (Err Circle) = (count < ask_limit) × doubted × on

-- so an ask of `cell` for the cell of number `wanted` is let through, or faults at it with the wanted cell as mark
abbrev pub AskChecked : Cell → (wanted count chain : ℕ) → (doubted on : Type 0) → Result (Unit {0}) Fault → Type 0
AskChecked cell wanted count chain doubted on (Ok _) = AskFaults count doubted on (Ok tt)
AskChecked cell wanted count chain doubted on (Err f) =
    (a : AskFault) × AskFaults count doubted on (Err a) × (f ≡ ask_fault a cell wanted chain)

-- the report after one more run: it stands at the end, if there is room
abbrev pub count_after : Maybe Ran → (ran : ℕ) → List Ran → ℕ
count_after None ran list = ran
count_after (Some r) ran list = cond (nat_lt ran (length list)) (ran + 1) ran

abbrev pub list_after : Maybe Ran → (ran : ℕ) → List Ran → List Ran
list_after None ran list = list
list_after (Some r) ran list = slice_set list ran r

-- so the report is after one more run, on the same lent list
pub record Joins (run : Maybe Ran) (before after : Report) : Type 0 where
  pub count : after.ran ≡ count_after run before.ran before.list.now
  pub list : after.list.now ≡ list_after run before.ran before.list.now
  pub lent : after.list.ghost_name ≡ before.list.ghost_name

-- the run to report of a cell with this cause
abbrev pub run_of : Cell → Maybe Cell → Maybe Ran
run_of cell None = None
run_of cell (Some y) = Some (record { cell = cell; cause = y })

-- the cell `x` got the value `v`, unless it is locked, and its doubt ended with these asked cells; traces are as they were
pub record Closes {V : Type 0} (w w' : View V) (x : ℕ) (v : V) (cs : List ℕ) : Type 0 where
  pub ended : Ended w w' x (cond (w.locked x) (w.stored x) v) cs
  pub traces : (k : ℕ) → w'.traces k ≡ w.traces k

-- so it is after a run, whose trace of asked cells and answers is recorded too
pub record Concludes {V : Type 0} (canon : V → V) (depth : ℕ) (w w' : View V) (x : ℕ) (cs : List Cell) (vs : List V) (v : V) : Type 0 where
  pub ended : Ended w w' x (cond (w.locked x) (w.stored x) (canon v)) (map number_of cs)
  pub traces : (k : ℕ) → w'.traces k ≡ after_recording depth (recording canon cs vs v) x w.traces k
