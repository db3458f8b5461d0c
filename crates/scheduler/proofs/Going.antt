-- How far following a cell has come, and each way on from there.
use Rattle.std.proofs.Common.{◌≡◌, ℕ, ◌≤◌, Bool, true, false, List, [], ◌∷◌, ◌++◌, map, length, take, Ok, Err, Result, Option as Maybe, sym, refl, ap, ◌∙◌, subst, arith}
use mathlib.Core.Option.{none}
use Rattle.std.proofs.Math.Seq.{take-length}
use Rattle.std.proofs.lemmas.List.{length-take, length-take-le}
use Rattle.interfaces.specs.declared.asked.Asked.{Asked}
use Rattle.interfaces.specs.declared.cell.Cell.{Cell}
use Rattle.interfaces.specs.Asks.{asked_cells}
use Rattle.interfaces.specs.Cells.{ask_limit, number_of}
use Rattle.interfaces.specs.Tasks.{Act, step_of}
use Rattle.interfaces.specs.Traces.{Pair, Trace, runs, keeps, plan_for, pairs_of}
use Rattle.past.specs.Afresh.{In, Outcome, engine, language, fault, gave}
use Rattle.view.specs.View.{View}
use Rattle.midway.specs.Planning.{Plans, plain_trace}
use Rattle.table.specs.Records.{number_in}
use Rattle.moves.specs.declared.answer.Fault.{Fault}
use Rattle.moves.specs.declared.answer.Ran.{Ran}
use Rattle.moves.specs.declared.report.Report.{Report}
use Rattle.moves.specs.declared.turns.Turn.{Turn}
use Rattle.moves.specs.declared.turns.Turn.TheVariants.{Keep, Begin, Give, Ask}
use Rattle.moves.specs.Moves.{turn_means, move_of, fault_number, AskChecked, Closes, Concludes, Joins, run_of}
use Rattle.scheduler.specs.Outcomes.{outcome_of, layer_of}
use Rattle.scheduler.specs.Settling.{Settles, Follows}
use Rattle.scheduler.proofs.Reporting.{pairs_on}
use Rattle.scheduler.proofs.Turning.{Wants, wants_is, retains_is, yields_is, begins_is, fails_is}
use Rattle.scheduler.proofs.Stepping.{follows_as}
use Rattle.scheduler.proofs.Stepping as steps

-- whatever following on from here comes to, following from the start comes to: `w₀` is what the workbook showed then
pub record Going {V : Type 0} (blank : V) (kept : ℕ) (canon : V → V) (x : ℕ) (w₀ : View V) (path₀ : List Cell) (report₀ : Report)
    (w : View V) (path : List Cell) (asked : Asked) (running : Bool) (work : List V) (report : Report) : Type 0 where
  pub same_path : path ≡ path₀
  pub lent : report.list.ghost_name ≡ report₀.list.ghost_name
  pub joins : (after : View V) (ran' : ℕ) (list' : List Ran) (o : Outcome V)
      → Follows blank kept w after (map number_of path) x (pairs_of canon (asked_cells asked) (take (length (asked_cells asked)) work)) running report.ran report.list.now ran' list' o
      → Follows blank kept w₀ after (map number_of path₀) x [] false report₀.ran report₀.list.now ran' list' o

pub few_asked : (asked : Asked) → length (asked_cells asked) ≤ ask_limit
few_asked asked = omega (arith, asked.short, length-take asked.len asked.cells)

module _ {V : Type 0} (blank : V) (kept : ℕ) (same : (v w : V) → Dec (v ≡ w)) (canon : V → V) (alike : V → V → Bool)
    (sound : (x y : V) → alike x y ≡ true → canon x ≡ canon y) (whole : (x y : V) → canon x ≡ canon y → alike x y ≡ true) (steady : (x : V) → canon (canon x) ≡ canon x)
    (w : View V) (path : List Cell) (cell : Cell) (ts : List (Trace V)) (asked : Asked) (work : List V) (running : Bool) (report : Report)
    (traces : w.traces (number_of cell) ≡ map (plain_trace canon) ts) (room : ask_limit ≤ length work) (chain : ℕ) where
  abbrev cs : List Cell
  cs = asked_cells asked

  abbrev vs : List V
  vs = take (length cs) work

  abbrev pairs : List (Pair V)
  pairs = pairs_of canon cs vs

  abbrev step : Act V
  step = step_of blank (w.defs (number_of cell)) (map canon vs)

  len : length cs ≡ length vs
  len = sym (length-take-le (length cs) work (omega (arith, few_asked asked, room)))

  -- the cell's next turn
  abbrev Turned : Result (Turn V) Fault → Type 0
  Turned t = turn_means canon t ≡ move_of cell chain running (plan_for canon alike ts cs vs) step

  -- an ask for a cell
  abbrev Checked : Cell → Result (Unit {0}) Fault → Type 0
  Checked a r = AskChecked cell (number_of a) (length cs) (length path) (w.cause (number_of a) ≡ none → ⊥) (In (number_of a) (map number_of path)) r

  -- what following on comes to
  abbrev Comes : View V → ℕ → List Ran → Outcome V → Type 0
  Comes after ran' list' o = Follows blank kept w after (map number_of path) (number_of cell) pairs running report.ran report.list.now ran' list' o

  asks_for : (a : Cell) (t : Turn V) → t ≡ Ask a → Turned (Ok t) → Wants (w.traces (number_of cell)) step pairs running (number_of a)
  asks_for a t i e = subst (λ z. Wants z step pairs running (number_of a)) (sym traces) (wants_is canon alike sound whole steady ts cs vs len cell chain step running a t i e)

  pub step_faults : (f : Fault) (r : Result V Fault) → r ≡ Err f → chain ≡ length path → Turned (Err f) → Comes w report.ran report.list.now (outcome_of canon path r)
  step_faults f r q long e =
      let u = fails_is canon alike sound whole steady ts cs vs len cell chain step running f e in
      follows_as blank kept w w (map number_of path) (number_of cell) pairs running report.ran report.list.now report.ran report.list.now
      (sym (ap (outcome_of canon path) q ∙ ap (λ z. outcome_of canon path (Err z)) u.1 ∙ ap (λ n. fault f.number f.mark (number_of cell) language (map number_of (take n path))) long ∙ ap (λ z. fault f.number f.mark (number_of cell) language (map number_of z)) (take-length path)))
      (steps.fails blank kept same canon w (map number_of path) (number_of cell) cs vs len running f.number f.mark report.ran report.list.now u.0)

  pub ask_faults : (a : Cell) (t : Turn V) (f : Fault) (r : Result V Fault) → r ≡ Err f → t ≡ Ask a → Turned (Ok t) → Checked a (Err f)
      → Comes w report.ran report.list.now (outcome_of canon path r)
  ask_faults a t f r q i e (b, h, k) =
      follows_as blank kept w w (map number_of path) (number_of cell) pairs running report.ran report.list.now report.ran report.list.now
      (sym (ap (outcome_of canon path) q ∙ ap (λ z. outcome_of canon path (Err z)) k ∙ ap (λ z. fault (fault_number b) (number_of a) (number_of cell) engine (map number_of z)) (take-length path)))
      (steps.ask_fails blank kept same canon w (map number_of path) (number_of cell) cs vs len running (number_of a) b report.ran report.list.now (asks_for a t i e) h)

  pub below_faults : (a : Cell) (t : Turn V) (w' : View V) (after : List Cell) (report' : Report) (f : Fault) (r : Result V Fault) → r ≡ Err f → t ≡ Ask a → Turned (Ok t) → Checked a (Ok tt)
      → Settles blank kept w w' (map number_of path) (number_of a) report.ran report.list.now report'.ran report'.list.now (outcome_of canon after (Err f))
      → Comes w' report'.ran report'.list.now (outcome_of canon after r)
  below_faults a t w' after report' f r q i e k s =
      follows_as blank kept w w' (map number_of path) (number_of cell) pairs running report.ran report.list.now report'.ran report'.list.now (ap (outcome_of canon after) (sym q))
      (steps.sinks blank kept same canon w (map number_of path) (number_of cell) cs vs len running (number_of a) w' report.ran report.list.now report'.ran report'.list.now
      f.number f.mark (number_of f.cell) (layer_of f.layer) (map number_of (take f.chain after)) (asks_for a t i e) k.0 k.1 s)

  pub keeps_it : (v : V) (t : Turn V) (w' : View V) → t ≡ Keep v → Turned (Ok t) → Closes w w' (number_of cell) (canon v) (map number_of cs) → Comes w' report.ran report.list.now (gave (canon v))
  keeps_it v t w' i e k =
      steps.kept blank kept same canon w (map number_of path) (number_of cell) cs vs len running v w' report.ran report.list.now
      (subst (λ z. Plans z pairs (keeps (canon v))) (sym traces) (retains_is canon alike sound whole steady ts cs vs len cell chain step running v t i e)) k

  pub finishes : (v : V) (t : Turn V) (w' : View V) (report' : Report) (mc : Maybe Cell) → t ≡ Give v → Turned (Ok t) → number_in mc ≡ w.cause (number_of cell)
      → Concludes canon kept w w' (number_of cell) cs vs v → Joins (run_of cell mc) report report' → Comes w' report'.ran report'.list.now (gave (canon v))
  finishes v t w' report' mc i e m k j =
      steps.given blank kept same canon w (map number_of path) (number_of cell) cs vs len running (few_asked asked) cell v w' report.ran report.list.now report'.ran report'.list.now mc refl m
      (yields_is canon alike sound whole steady ts cs vs len cell chain step running v t i e) k j.count j.list

  pub begins_anew : (t : Turn V) (w' : View V) (ran' : ℕ) (list' : List Ran) (o : Outcome V) → t ≡ Begin → Turned (Ok t)
      → Follows blank kept w w' (map number_of path) (number_of cell) [] true report.ran report.list.now ran' list' o → Comes w' ran' list' o
  begins_anew t w' ran' list' o i e f =
      steps.begun blank kept same canon w (map number_of path) (number_of cell) cs vs len running w' report.ran report.list.now ran' list' o
      (subst (λ z. Plans z pairs runs) (sym traces) (begins_is canon alike sound whole steady ts cs vs len cell chain step running t i e)) f

  pub goes_on : (a : Cell) (t : Turn V) (v : V) (w₁ w₂ : View V) (report₁ : Report) (ran₂ : ℕ) (list₂ : List Ran) (o : Outcome V) (path₁ cs₁ : List Cell) (vs₁ : List V)
      → t ≡ Ask a → Turned (Ok t) → Checked a (Ok tt)
      → Settles blank kept w w₁ (map number_of path) (number_of a) report.ran report.list.now report₁.ran report₁.list.now (gave (canon v))
      → path₁ ≡ path → cs₁ ≡ cs ++ (a ∷ []) → vs₁ ≡ vs ++ (v ∷ [])
      → Follows blank kept w₁ w₂ (map number_of path₁) (number_of cell) (pairs_of canon cs₁ vs₁) running report₁.ran report₁.list.now ran₂ list₂ o
      → Comes w₂ ran₂ list₂ o
  goes_on a t v w₁ w₂ report₁ ran₂ list₂ o path₁ cs₁ vs₁ i e k s pe ce ve f =
      steps.goes_on blank kept same canon w (map number_of path) (number_of cell) cs vs len running (number_of a) v w₁ w₂ report.ran report.list.now report₁.ran report₁.list.now ran₂ list₂ o
      (map number_of path₁) (pairs_of canon cs₁ vs₁) (asks_for a t i e) k.0 k.1 s (ap (map number_of) pe) (pairs_on canon cs vs a v ce ve len) f

-- no asked cells make no pairs
pub from_none : {V : Type 0} (blank : V) (kept : ℕ) (canon : V → V) (w w' : View V) (path : List ℕ) (x : ℕ) (asked : Asked) (work : List V) (running : Bool) (ran : ℕ) (list : List Ran) (ran' : ℕ) (list' : List Ran) (o : Outcome V)
    → asked_cells asked ≡ [] → Follows blank kept w w' path x (pairs_of canon (asked_cells asked) (take (length (asked_cells asked)) work)) running ran list ran' list' o
    → Follows blank kept w w' path x [] running ran list ran' list' o
from_none blank kept canon w w' path x asked work running ran list ran' list' o e f =
    subst (λ z. Follows blank kept w w' path x (pairs_of canon z (take (length z) work)) running ran list ran' list' o) e f
