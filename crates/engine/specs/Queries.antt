-- What a query tells its caller: by its answer, and by the report and the chain list that it was lent.
use Rattle.std.specs.Prelude.{◌≡◌, ℕ, Bool, List, map, length, take, drop, Ok, Err, Result}
use Rattle.interfaces.specs.declared.cell.Cell.{Cell}
use Rattle.interfaces.specs.declared.refusal.Refusal.{Refusal}
use Rattle.interfaces.specs.Cells.{number_of}
use Rattle.interfaces.specs.Refusals.{Said, said}
use Rattle.interfaces.specs.Tasks.{Verdict}
use Rattle.past.specs.Afresh.{Log, Outcome}
use Rattle.past.specs.Past.{Lent, Run, Request, Call, refused, queried, request, Past, ◌▹◌}
use Rattle.past.specs.Law.{Lawful}
use Rattle.view.specs.View.{View, Shows}
use Rattle.moves.specs.declared.answer.Ran.{Ran}
use Rattle.scheduler.specs.declared.answer.Answer.{Answer}
use Rattle.scheduler.specs.Outcomes.{outcome_of, chain_in, ran_entry, run_entry}

-- the report list and the chain list, as they were lent and as they were left
pub record Lists : Type 0 where
  pub report_before : List Ran
  pub report_after : List Ran
  pub chain_before : List Cell
  pub chain_after : List Cell

-- `canon` gives a value's normal form
module _ {V : Type 0} (canon : V → V) (lists : Lists) where
  -- the answer and the lists tell an outcome and its runs
  pub record Told (outcome : Outcome V) (runs : List (Run V)) (a : Answer V) : Type 0 where
    -- the answer is the outcome: the value by its meaning, or the fault, with its chain in front of the chain list
    pub answers : outcome_of canon lists.chain_after a.outcome ≡ outcome
    -- the answer counts the runs
    pub counted : a.runs ≡ length runs
    -- the report list has the runs in front, each with its cause
    pub listed : map ran_entry (take (length runs) lists.report_after) ≡ map run_entry runs
    -- and behind them what it had before
    pub report_rest : drop (length runs) lists.report_after ≡ drop (length runs) lists.report_before
    -- the chain list has the chain in front
    pub chained : map number_of (take (length (chain_in outcome)) lists.chain_after) ≡ chain_in outcome
    -- and behind it what it had before: without a fault it is wholly unchanged
    pub chain_rest : drop (length (chain_in outcome)) lists.chain_after ≡ drop (length (chain_in outcome)) lists.chain_before

  -- the answer and the lists tell what came of a query
  pub data Tells : Call V → Result (Answer V) Refusal → Type 0 where
    answered : {c : ℕ} {lent : Lent} {log : Log V} {outcome : Outcome V} {runs : List (Run V)} {a : Answer V}
        → Told outcome runs a → Tells (queried c lent log outcome runs) (Ok a)
    -- a refusal leaves both lists as they were
    not_answered : {q : Request V} {s : Said} {e : Refusal}
        → said e ≡ s → lists.report_after ≡ lists.report_before → lists.chain_after ≡ lists.chain_before → Tells (refused q s) (Err e)

-- after the past `p`, the query `q` was answered by `r`, and left what `w` shows: there is a call with that request that
-- came rightly, the answer and the lists tell it, and `w` is what the past with it leaves
pub record Asked {V : Type 0} (canon : V → V) (blank : V) (locks : ℕ → Bool) (stands : List ℕ → Verdict V) (depth : ℕ) (p : Past V) (q : Request V)
    (lists : Lists) (r : Result (Answer V) Refusal) (w : View V) : Type 0 where
  pub call : Call V
  pub request_is : request call ≡ q
  pub lawful : Lawful blank locks stands depth (p ▹ call)
  pub shows : Shows blank locks depth (p ▹ call) w
  pub tells : Tells canon lists call r
