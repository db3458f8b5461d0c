-- What the answers and lists of a query mean.
use Rattle.std.specs.Prelude.{◌≡◌, ℕ, ◌≤◌, List, [], map, length, take, drop, Ok, Err, Result}
use Rattle.interfaces.specs.declared.cell.Cell.{Cell}
use Rattle.interfaces.specs.Cells.{cell_count, number_of}
use Rattle.past.specs.Afresh.{Layer, engine, language, Outcome, gave, fault}
use Rattle.past.specs.Past.{Run}
use Rattle.moves.specs.declared.answer.Layer.{Layer as Side}
use Rattle.moves.specs.declared.answer.Layer.TheVariants.{Engine, Language}
use Rattle.moves.specs.declared.answer.Fault.{Fault}
use Rattle.moves.specs.declared.answer.Ran.{Ran}

-- the layer of a fault
abbrev pub layer_of : Side → Layer
layer_of Engine = engine
layer_of Language = language

-- the outcome that is answered, where the list has the chain of a fault in front; `canon` gives a value's normal form
abbrev pub outcome_of : {V : Type 0} → (V → V) → List Cell → Result V Fault → Outcome V
outcome_of canon list (Ok v) = gave (canon v)
outcome_of canon list (Err f) = fault f.number f.mark (number_of f.cell) (layer_of f.layer) (map number_of (take f.chain list))

-- the cells of a fault's chain
abbrev pub chain_in : {V : Type 0} → Outcome V → List ℕ
chain_in (gave v) = []
chain_in (fault n m c layer chain) = chain

-- a cell and a cause
pub record Entry : Type 0 where
  pub cell : ℕ
  pub cause : ℕ

-- a reported run, and a run, as an entry
abbrev pub ran_entry : Ran → Entry
ran_entry a = record { cell = number_of a.cell; cause = number_of a.cause }

abbrev pub run_entry : {V : Type 0} → Run V → Entry
run_entry a = record { cell = a.cell; cause = a.cause }

-- the report list has these runs in front, and behind them what it had at first
pub record Listed {V : Type 0} (r : List (Run V)) (ran : ℕ) (list first : List Ran) : Type 0 where
  pub count_is : ran ≡ length r
  pub front_is : map ran_entry (take ran list) ≡ map run_entry r
  pub rest_is : drop ran list ≡ drop ran first
  pub length_is : length list ≡ length first
  pub room : cell_count ≤ length first
