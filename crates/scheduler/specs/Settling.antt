-- Bringing a cell up to date, in the midst of any query.
use Rattle.std.specs.Prelude.{◌≡◌, ℕ, Bool, List, ◌++◌, length, Ok, Err, Result}
use Rattle.interfaces.specs.declared.cell.Cell.{Cell}
use Rattle.interfaces.specs.Tasks.{Def, Verdict}
use Rattle.interfaces.specs.Traces.{Pair}
use Rattle.past.specs.Afresh.{Log, Outcome}
use Rattle.past.specs.Past.{Past, Run}
use Rattle.past.specs.Law.{Lawful}
use Rattle.view.specs.View.{View}
use Rattle.midway.specs.Midway.{Mid, Ready, Followed, Open, Brought}
use Rattle.moves.specs.declared.answer.Fault.{Fault}
use Rattle.moves.specs.declared.answer.Ran.{Ran}
use Rattle.scheduler.specs.Outcomes.{Listed}

-- a path is as it was, or has the chain of a fault
abbrev pub Leaves : {V : Type 0} → List Cell → List Cell → Result V Fault → Type 0
Leaves before after (Ok v) = after ≡ before
Leaves before after (Err f) = f.chain ≡ length after

-- bringing the cell `a` up to date on the path
abbrev pub Settles : {V : Type 0} → V → ℕ → View V → View V → List ℕ → ℕ → (ran : ℕ) (list : List Ran) (ran' : ℕ) (list' : List Ran) → Outcome V → Type 0
Settles {V} blank depth before after path a ran list ran' list' o =
    (locks : ℕ → Bool) (stands : List ℕ → Verdict V) (p : Past V) (l : Log V) (r : List (Run V)) (first : List Ran)
    → Lawful blank locks stands depth p → Mid blank locks depth p l r before → Open blank locks depth p l before path a → Listed r ran list first
    → (f : Brought blank locks depth p l r path a after o) × Listed (r ++ f.report) ran' list' first

-- following the cell `x`, the last of the path, from these pairs on
abbrev pub Follows : {V : Type 0} → V → ℕ → View V → View V → List ℕ → ℕ → List (Pair V) → Bool → (ran : ℕ) (list : List Ran) (ran' : ℕ) (list' : List Ran) → Outcome V → Type 0
Follows {V} blank depth before after path x pairs running ran list ran' list' o =
    (locks : ℕ → Bool) (stands : List ℕ → Verdict V) (p : Past V) (l : Log V) (r : List (Run V)) (d : Def V) (first : List Ran)
    → Lawful blank locks stands depth p → Mid blank locks depth p l r before → Ready blank locks depth p l path x d pairs running → Listed r ran list first
    → (f : Followed blank locks depth p l r path x d pairs after o) × Listed (r ++ f.report) ran' list' first
