-- Each way through the scheduler, by what the workbook shows before and after.
use Rattle.std.proofs.Common.{◌≡◌, ℕ, ◌<◌, ◌≤◌, Bool, true, false, cond, List, [], ◌∷◌, ◌++◌, map, length, Some, None, Err, Option as Maybe, sym, refl, ap, ◌∙◌, subst, append_assoc, arith, length-append}
use mathlib.Core.Option.{Option, none, some}
use Rattle.interfaces.specs.declared.cell.Cell.{Cell}
use Rattle.interfaces.specs.Cells.{cell_count, ask_limit, number_of}
use Rattle.interfaces.specs.Tasks.{Act, asks, gives, faults, Def, Verdict, step_of}
use Rattle.interfaces.specs.Traces.{Pair, pairs_of, runs, keeps}
use Rattle.past.specs.Afresh.{In, Log, Layer, engine, language, Outcome, gave, fault, values}
use Rattle.past.specs.Past.{Past, Run, cells, defs, Cause, never, touched}
use Rattle.past.specs.Law.{Lawful}
use Rattle.past.proofs.Lists.{no_some}
use Rattle.view.specs.View.{View}
use Rattle.midway.specs.Planning.{Plans}
use Rattle.midway.specs.Midway.{Mid, Ready, Brought, Ended}
use Rattle.midway.proofs.Midway as midway
use Rattle.midway.proofs.Short.{defined_open, mid_short, path_short}
use Rattle.table.specs.Records.{number_in}
use Rattle.moves.specs.declared.answer.Ran.{Ran}
use Rattle.moves.specs.declared.asks.AskFault.{AskFault}
use Rattle.moves.specs.declared.asks.AskFault.TheVariants.{Circle, NinthAsk}
use Rattle.moves.specs.Moves.{fault_number, AskFaults, Closes, Concludes, count_after, list_after, run_of}
use Rattle.scheduler.specs.Outcomes.{Listed}
use Rattle.scheduler.specs.Settling.{Settles, Follows}
use Rattle.scheduler.proofs.Turning.{Wants, recorded}
use Rattle.scheduler.proofs.Reporting.{listed_same, listed_on, listed_push, cells_pairs, values_pairs, length_pairs}

some_cause : (z : Option ℕ) → ¬ (z ≡ none) → (y : ℕ) × (z ≡ some y)
some_cause none n = absurd (n refl)
some_cause (some y) n = (y, refl)

module _ {V : Type 0} (blank : V) (depth : ℕ) (same : (v w : V) → Dec (v ≡ w)) (canon : V → V) (w : View V) (path : List ℕ) (x : ℕ) (cs : List Cell) (vs : List V) (len : length cs ≡ length vs) where
  abbrev pairs : List (Pair V)
  pairs = pairs_of canon cs vs

  abbrev step : Act V
  step = step_of blank (w.defs x) (map canon vs)

  module _ (locks : ℕ → Bool) (stands : List ℕ → Verdict V) (p : Past V) (l : Log V) (r : List (Run V)) (d : Def V) (h : Lawful blank locks stands depth p) (m : Mid blank locks depth p l r w) where
    step_is : {running : Bool} → Ready blank locks depth p l path x d pairs running → step ≡ d (values pairs)
    step_is ready = ap (λ z. step_of blank z (map canon vs)) (m.defs_are x ∙ ready.def_is) ∙ ap d (sym (values_pairs canon cs vs len))

    -- what the plan or the step asks for, the definition asks for
    wanted : (running : Bool) → Ready blank locks depth p l path x d pairs running → (a : ℕ) → Wants (w.traces x) step pairs running a → d (values pairs) ≡ asks a
    wanted true ready a e = sym (step_is ready) ∙ e
    wanted false ready a e = (midway.plan_next blank locks stands depth same p h l r w m path x d pairs false ready e).0

    is_open : {running : Bool} → Ready blank locks depth p l path x d pairs running → w.locked x ≡ false
    is_open ready = m.locks_are x ∙ defined_open blank locks stands depth p h x d ready.def_is

  module _ (running : Bool) where
    pub fails : (n k ran : ℕ) (list : List Ran) → step ≡ faults n k → Follows blank depth w w path x pairs running ran list ran list (fault n k x language path)
    fails n k ran list e locks stands p l r d first h m ready ls =
        let f = midway.follow_fails blank locks stands depth same p h l r w m path x d pairs running ready n k (sym (step_is locks stands p l r d h m ready) ∙ e) in
        (f.0, listed_on r f.1 ls)

    pub ninth : (a ran : ℕ) (list : List Ran) → Wants (w.traces x) step pairs running a → ask_limit ≤ length cs → Follows blank depth w w path x pairs running ran list ran list (fault 17 a x engine path)
    ninth a ran list u e locks stands p l r d first h m ready ls =
        let f = midway.follow_ninth blank locks stands depth same p h l r w m path x d pairs running ready a (wanted locks stands p l r d h m running ready a u) (omega (arith, length_pairs canon cs vs len)) in
        (f.0, listed_on r f.1 ls)

    cause_def : (p : Past V) {a y : ℕ} → Cause blank p a y → (e : Def V) × (defs p a ≡ some e)
    cause_def p (never {d = e} u _) = (e, u)
    cause_def p (touched {d = e} u _ _) = (e, u)

    pub circle : (a ran : ℕ) (list : List Ran) → Wants (w.traces x) step pairs running a → length cs < ask_limit → ¬ (w.cause a ≡ none) → In a path
        → Follows blank depth w w path x pairs running ran list ran list (fault 16 a x engine path)
    circle a ran list u e c o locks stands p l r d first h m ready ls =
        let y = some_cause (w.cause a) c in
        let q = cause_def p (m.doubts a y.0 y.1).1 in
        let f = midway.follow_circle blank locks stands depth same p h l r w m path x d pairs running ready a (wanted locks stands p l r d h m running ready a u) (omega (arith, length_pairs canon cs vs len)) q.1 o in
        (f.0, listed_on r f.1 ls)

    -- an ask that faults
    pub ask_fails : (a : ℕ) (b : AskFault) (ran : ℕ) (list : List Ran) → Wants (w.traces x) step pairs running a → AskFaults (length cs) (w.cause a ≡ none → ⊥) (In a path) (Err b)
        → Follows blank depth w w path x pairs running ran list ran list (fault (fault_number b) a x engine path)
    ask_fails a NinthAsk ran list u h = ninth a ran list u h
    ask_fails a Circle ran list u (h, c, o) = circle a ran list u h c o

    -- a run begins anew
    pub begun : (w' : View V) (ran : ℕ) (list : List Ran) (ran' : ℕ) (list' : List Ran) (o : Outcome V) → Plans (w.traces x) pairs runs
        → Follows blank depth w w' path x [] true ran list ran' list' o → Follows blank depth w w' path x pairs running ran list ran' list' o
    begun w' ran list ran' list' o u fo locks stands p l r d first h m ready ls =
        let f = fo locks stands p l r d first h m (midway.plan_run blank locks stands depth same p h l r w m path x d pairs running ready u) ls in
        let k = midway.run_over blank locks stands depth same p h l r w m path x d pairs running ready w' o f.0 in
        (k.0, listed_same (ap (λ z. r ++ z) (sym k.1)) f.1)

    off_by : (a : ℕ) → (¬ (w.cause a ≡ none) → ¬ In a path) → (y : ℕ) → w.cause a ≡ some y → ¬ In a path
    off_by a k y e = k (λ z. no_some (sym z ∙ e))

    pub sinks : (a : ℕ) (w₁ : View V) (ran : ℕ) (list : List Ran) (ran₁ : ℕ) (list₁ : List Ran) (n k at : ℕ) (layer : Layer) (chain : List ℕ) → Wants (w.traces x) step pairs running a → length cs < ask_limit
        → (¬ (w.cause a ≡ none) → ¬ In a path) → Settles blank depth w w₁ path a ran list ran₁ list₁ (fault n k at layer chain) → Follows blank depth w w₁ path x pairs running ran list ran₁ list₁ (fault n k at layer chain)
    sinks a w₁ ran list ran₁ list₁ n k at layer chain u e off st locks stands p l r d first h m ready ls =
        let b = st locks stands p l r first h m (midway.open_below blank locks stands depth same p h l r w m path x d pairs running ready a (off_by a off)) ls in
        let f = midway.follow_sinks blank locks stands depth same p h l r w m path x d pairs running ready a w₁ n k at layer chain (wanted locks stands p l r d h m running ready a u) (omega (arith, length_pairs canon cs vs len)) b.0 in
        (f.0, listed_same (ap (λ z. r ++ z) (sym f.1)) b.1)

    pub goes_on : (a : ℕ) (v : V) (w₁ w₂ : View V) (ran : ℕ) (list : List Ran) (ran₁ : ℕ) (list₁ : List Ran) (ran₂ : ℕ) (list₂ : List Ran) (o : Outcome V) (path₁ : List ℕ) (pairs₁ : List (Pair V))
        → Wants (w.traces x) step pairs running a → length cs < ask_limit
        → (¬ (w.cause a ≡ none) → ¬ In a path) → Settles blank depth w w₁ path a ran list ran₁ list₁ (gave (canon v))
        → path₁ ≡ path → pairs₁ ≡ pairs ++ (record { cell = a; value = canon v } ∷ [])
        → Follows blank depth w₁ w₂ path₁ x pairs₁ running ran₁ list₁ ran₂ list₂ o → Follows blank depth w w₂ path x pairs running ran list ran₂ list₂ o
    goes_on a v w₁ w₂ ran list ran₁ list₁ ran₂ list₂ o path₁ pairs₁ u e off st pe qe fo locks stands p l r d first h m ready ls =
        let b = st locks stands p l r first h m (midway.open_below blank locks stands depth same p h l r w m path x d pairs running ready a (off_by a off)) ls in
        let k = midway.onward blank locks stands depth same p h l r w m path x d pairs running ready a (canon v) w₁ (wanted locks stands p l r d h m running ready a u) (omega (arith, length_pairs canon cs vs len)) b.0 in
        let fo' : Follows blank depth w₁ w₂ path x (pairs ++ (record { cell = a; value = canon v } ∷ [])) running ran₁ list₁ ran₂ list₂ o
        = subst (λ z. Follows blank depth w₁ w₂ path x z running ran₁ list₁ ran₂ list₂ o) qe (subst (λ z. Follows blank depth w₁ w₂ z x pairs₁ running ran₁ list₁ ran₂ list₂ o) pe fo) in
        let g = fo' locks stands p (l ++ k.more) (r ++ k.ran_more) d first h k.mid_on k.ready_on (listed_same (ap (λ z. r ++ z) (sym k.ran_is)) b.1) in
        (k.join w₂ o g.0, listed_same (append_assoc r k.ran_more g.0.report ∙ ap (λ z. r ++ z) (sym (k.joined w₂ o g.0))) g.1)

    -- what the end of a doubt leaves at a cell that is not locked
    ended : (w' : View V) (v : V) (locks : ℕ → Bool) (stands : List ℕ → Verdict V) (p : Past V) (l : Log V) (r : List (Run V)) (d : Def V) → Lawful blank locks stands depth p → Mid blank locks depth p l r w
        → Ready blank locks depth p l path x d pairs running → Ended w w' x (cond (w.locked x) (w.stored x) (canon v)) (map number_of cs) → Ended w w' x (canon v) (cells pairs)
    ended w' v locks stands p l r d h m ready e =
        subst (λ z. Ended w w' x (canon v) z) (sym (cells_pairs canon cs vs len)) (subst (λ b. Ended w w' x (cond b (w.stored x) (canon v)) (map number_of cs)) (is_open locks stands p l r d h m ready) e)

    -- a result is kept, and the report stays as it is
    pub kept : (v : V) (w' : View V) (ran : ℕ) (list : List Ran) → Plans (w.traces x) pairs (keeps (canon v)) → Closes w w' x (canon v) (map number_of cs)
        → Follows blank depth w w' path x pairs running ran list ran list (gave (canon v))
    kept v w' ran list u ch locks stands p l r d first h m ready ls =
        let f = midway.follow_keep blank locks stands depth same p h l r w m path x d pairs running ready (canon v) w' u (ended w' v locks stands p l r d h m ready ch.ended) ch.traces in
        (f.0, listed_on r f.1 ls)

    -- a run gives a value, and joins the report
    pub given : length cs ≤ ask_limit → (cell : Cell) (v : V) (w' : View V) (ran : ℕ) (list : List Ran) (ran' : ℕ) (list' : List Ran) (mc : Maybe Cell) → number_of cell ≡ x → number_in mc ≡ w.cause x
        → (running ≡ true) × (step ≡ gives (canon v)) → Concludes canon depth w w' x cs vs v → ran' ≡ count_after (run_of cell mc) ran list → list' ≡ list_after (run_of cell mc) ran list
        → Follows blank depth w w' path x pairs running ran list ran' list' (gave (canon v))
    given few cell v w' ran list ran' list' None c-is mc-is u ch counts lists locks stands p l r d first h m ready ls =
        absurd (m.calm x (sym mc-is) (ready.path_doubts x ready.on_path).0 (ready.path_doubts x ready.on_path).1)
    given few cell v w' ran list ran' list' (Some y) c-is mc-is u ch counts lists locks stands p l r d first h m ready ls =
        let f = midway.follow_give blank locks stands depth same p h l r w m path x d pairs running ready (canon v) w' (number_of y) u.0 (sym mc-is) (sym (step_is locks stands p l r d h m ready) ∙ u.1) (ended w' v locks stands p l r d h m ready ch.ended)
        (λ k. ch.traces k ∙ recorded canon cs vs v len few depth x w.traces k) in
        let a : Run V = record { cell = x; cause = number_of y; trace = record { asks = pairs; result = canon v } } in
        let short = mid_short blank locks stands depth p h (l ++ f.0.log) (r ++ f.0.report) w' f.0.mid in
        (f.0, listed_same (ap (λ z. r ++ z) (sym f.1)) (listed_push r ran list first ran' list' (record { cell = cell; cause = y }) a (λ i. record { cell = c-is i; cause = number_of y }) ls (omega (arith, short, length-append r f.0.report, ap length f.1)) counts lists))

module _ {V : Type 0} (blank : V) (depth : ℕ) (same : (v w : V) → Dec (v ≡ w)) (w : View V) (path : List ℕ) (a : ℕ) where
  pub settled_read : (v : V) (ran : ℕ) (list : List Ran) → v ≡ w.stored a → w.cause a ≡ none → Settles blank depth w w path a ran list ran list (gave v)
  settled_read v ran list q e locks stands p l r first h m o ls =
      let f = midway.brought_read blank locks stands depth same p h l r w m path a o e in
      subst (λ z. (f : Brought blank locks depth p l r path a w (gave z)) × Listed (r ++ f.report) ran list first) (sym q) (f.0, listed_on r f.1 ls)

  -- the path has no more cells than there are
  pub too_deep : (w' : View V) (ran : ℕ) (list : List Ran) (ran' : ℕ) (list' : List Ran) (o : Outcome V) → cell_count ≤ length path → ¬ (w.cause a ≡ none) → Settles blank depth w w' path a ran list ran' list' o
  too_deep w' ran list ran' list' o n c locks stands p l r first h m op ls =
      let y = some_cause (w.cause a) c in
      let k = midway.ready_below blank locks stands depth same p h l r w m path a op y.0 y.1 in
      absurd (omega (arith, path_short blank locks stands depth p h (path ++ (a ∷ [])) k.1.distinct (λ z i. (k.1.path_doubts z i).1), length-append path (a ∷ [])))

  pub settled_follow : (w' : View V) (path' : List ℕ) (ran : ℕ) (list : List Ran) (ran' : ℕ) (list' : List Ran) (o : Outcome V) → ¬ (w.cause a ≡ none) → path' ≡ path ++ (a ∷ [])
      → Follows blank depth w w' path' a [] false ran list ran' list' o → Settles blank depth w w' path a ran list ran' list' o
  settled_follow w' path' ran list ran' list' o c e fo locks stands p l r first h m op ls =
      let y = some_cause (w.cause a) c in
      let k = midway.ready_below blank locks stands depth same p h l r w m path a op y.0 y.1 in
      let fo' : Follows blank depth w w' (path ++ (a ∷ [])) a [] false ran list ran' list' o = subst (λ z. Follows blank depth w w' z a [] false ran list ran' list' o) e fo in
      let f = fo' locks stands p l r k.0 first h m k.1 ls in
      let b = midway.brought_followed blank locks stands depth same p h l r w m path a op y.0 y.1 k.0 k.1.def_is w' o f.0 in
      (b.0, listed_same (ap (λ z. r ++ z) (sym b.1)) f.1)

-- one outcome for another
pub follows_as : {V : Type 0} (blank : V) (depth : ℕ) (w w' : View V) (path : List ℕ) (x : ℕ) (pairs : List (Pair V)) (running : Bool) (ran : ℕ) (list : List Ran) (ran' : ℕ) (list' : List Ran) {o o' : Outcome V}
    → o ≡ o' → Follows blank depth w w' path x pairs running ran list ran' list' o → Follows blank depth w w' path x pairs running ran list ran' list' o'
follows_as blank depth w w' path x pairs running ran list ran' list' e f = subst (λ z. Follows blank depth w w' path x pairs running ran list ran' list' z) e f
