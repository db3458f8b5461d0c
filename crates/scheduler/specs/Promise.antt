-- What a query promises, over every lawful past that the workbook shows.
use Rattle.std.specs.Prelude.{◌≡◌, ℕ, ◌≤◌, Bool, List, map, length, take, drop, Ok, Err, Result}
use Rattle.interfaces.specs.declared.cell.Cell.{Cell}
use Rattle.interfaces.specs.declared.refusal.Refusal.{Refusal}
use Rattle.interfaces.specs.Cells.{cell_count, work_length, number_of}
use Rattle.interfaces.specs.Refusals.{said, no as refusal}
use Rattle.interfaces.specs.Tasks.{Verdict}
use Rattle.past.specs.Afresh.{Log, Outcome}
use Rattle.past.specs.Past.{Lent, Run, query, refused, queried, Past, ◌▹◌}
use Rattle.past.specs.Law.{Lawful}
use Rattle.view.specs.View.{View, Shows}
use Rattle.moves.specs.declared.answer.Ran.{Ran}
use Rattle.scheduler.specs.declared.answer.Answer.{Answer}
use Rattle.scheduler.specs.Outcomes.{outcome_of, chain_in, ran_entry, run_entry}

-- the lists lent are as long as stated
pub record Enough (lent : Lent) : Type 0 where
  -- room for a run of every cell
  pub report : cell_count ≤ lent.report
  -- room for every cell
  pub chain : cell_count ≤ lent.chain
  -- room for the asks of every cell
  pub work : work_length ≤ lent.work

-- a query, and what it found and left
pub record Setting (P V : Type 0) : Type 0 where
  -- the number of the cell that is asked for
  pub cell : ℕ
  -- the lengths of the lists lent
  pub lent : Lent
  -- the parts of the workbook
  pub parts_before : P
  pub parts_after : P
  -- what they show
  pub view_before : View V
  pub view_after : View V
  -- the report list
  pub report_before : List Ran
  pub report_after : List Ran
  -- the chain list
  pub chain_before : List Cell
  pub chain_after : List Cell
  -- the working list
  pub work_before : List V
  pub work_after : List V

-- `canon` gives a value's normal form; the others are the blank value, the store's locks, what texts stand for in the
-- language, and the rebuilder's depth
module _ {P V : Type 0} (canon : V → V) (blank : V) (locks : ℕ → Bool) (stands : List ℕ → Verdict V) (depth : ℕ) (q : Setting P V) where
  -- a query that is answered, after the past `p`
  pub record Queried (a : Answer V) (p : Past V) : Type 0 where
    -- what finished
    pub log : Log V
    -- what it came to
    pub outcome : Outcome V
    -- what ran
    pub runs : List (Run V)
    -- so it came rightly: as working out afresh comes, with the runs that doubt and kept traces ask for
    pub lawful : Lawful blank locks stands depth (p ▹ queried q.cell q.lent log outcome runs)
    -- the workbook shows the past with this query
    pub shows : Shows blank locks depth (p ▹ queried q.cell q.lent log outcome runs) q.view_after
    -- the answer is the outcome: the value by its meaning, or the fault, with its chain in front of the chain list
    pub answers : outcome_of canon q.chain_after a.outcome ≡ outcome
    -- the answer counts the runs
    pub counted : a.runs ≡ length runs
    -- the report list has the runs in front, each with its cause
    pub listed : map ran_entry (take (length runs) q.report_after) ≡ map run_entry runs
    -- and behind them what it had before
    pub report_rest : drop (length runs) q.report_after ≡ drop (length runs) q.report_before
    -- the chain list has the chain in front
    pub chained : map number_of (take (length (chain_in outcome)) q.chain_after) ≡ chain_in outcome
    -- and behind it what it had before: without a fault it is wholly unchanged
    pub chain_rest : drop (length (chain_in outcome)) q.chain_after ≡ drop (length (chain_in outcome)) q.chain_before

  -- a query that is refused
  pub record Refused (e : Refusal) : Type 0 where
    -- a list is shorter than stated
    pub short : ¬ Enough q.lent
    -- which is what is said
    pub number : said e ≡ refusal 1
    -- everything is as it was
    pub same_parts : q.parts_after ≡ q.parts_before
    pub same_report : q.report_after ≡ q.report_before
    pub same_chain : q.chain_after ≡ q.chain_before
    pub same_work : q.work_after ≡ q.work_before
    -- whatever past the workbook shows, it shows that past with this refusal
    pub shows : (p : Past V) → Lawful blank locks stands depth p → Shows blank locks depth p q.view_before
        → Shows blank locks depth (p ▹ refused (query q.cell q.lent) (refusal 1)) q.view_after
    -- which came rightly
    pub lawful : (p : Past V) → Lawful blank locks stands depth p → Lawful blank locks stands depth (p ▹ refused (query q.cell q.lent) (refusal 1))

  -- a query that is not refused
  pub record Answered (a : Answer V) : Type 0 where
    -- the memory is as long as stated
    pub enough : Enough q.lent
    -- whatever lawful past the workbook shows, the query is answered as that past asks
    pub queried : (p : Past V) → Lawful blank locks stands depth p → Shows blank locks depth p q.view_before → Queried a p

  -- what a query comes to: answered exactly if the lists are long enough
  abbrev pub Comes : Result (Answer V) Refusal → Type 0
  Comes (Ok a) = Answered a
  Comes (Err e) = Refused e
