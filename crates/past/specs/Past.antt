-- Pasts: the calls since the making, each with what came of it; and what a past leaves: definitions, stored values,
-- what a cell reaches, doubt and its cause, kept traces, and the runs that a query owes. All of it is said of the
-- calls alone, with nothing assumed but the blank value. Whether they came rightly is not asked here: `Law` says that.
use Rattle.std.specs.Prelude.{◌≡◌, ℕ, cond, List, [], ◌∷◌, ◌++◌, take, Ok, Result, ◌==◌}
use Rattle.std.proofs.Math.Option.{Option, none, some}
use Rattle.interfaces.specs.Cells.{but}
use Rattle.interfaces.specs.Refusals.{Said}
use Rattle.interfaces.specs.Tasks.{Def}
use Rattle.interfaces.specs.Traces.{Pair, Trace}
use Rattle.past.specs.Afresh.{In, State, Finishing, Log, Outcome, gave, Afresh}

-- the lengths of the lists that are lent to a query
pub record Lent : Type 0 where
  pub report : ℕ
  pub chain : ℕ
  pub work : ℕ

-- a cell whose task a query ran, why, and the trace of the run
pub record Run (M : Type 0) : Type 0 where
  pub cell : ℕ
  pub cause : ℕ
  pub trace : Trace M

-- a call without what came of it; an edit is given a value, or bytes that are none and what is to be said of them
pub data Request (M : Type 0) : Type 0 where
  edit : (cell : ℕ) → (given : Result M Said) → Request M
  define : (cell : ℕ) → (text : List ℕ) → Request M
  clear : (cell : ℕ) → Request M
  query : (cell : ℕ) → Lent → Request M

-- a call with what came of it: that it was refused and what was said, or what was done
pub data Call (M : Type 0) : Type 0 where
  refused : Request M → Said → Call M
  edited : (cell : ℕ) → (value : M) → Call M
  defined : (cell : ℕ) → (text : List ℕ) → (definition : Def M) → Call M
  cleared : (cell : ℕ) → Call M
  queried : (cell : ℕ) → Lent → (log : Log M) → (outcome : Outcome M) → (report : List (Run M)) → Call M

-- what was asked for
abbrev pub request : {M : Type 0} → Call M → Request M
request (refused q said) = q
request (edited c v) = edit c (Ok v)
request (defined c text d) = define c text
request (cleared c) = clear c
request (queried c lent log o report) = query c lent

-- the cell that a call is about
abbrev pub about : {M : Type 0} → Request M → ℕ
about (edit c given) = c
about (define c text) = c
about (clear c) = c
about (query c lent) = c

infixl 20 ◌▹◌
-- what was stored at the making, and the calls since, the newest last
pub data Past (M : Type 0) : Type 0 where
  start : (ℕ → M) → Past M
  ◌▹◌ : Past M → Call M → Past M

-- `f` everywhere but at the cell `c`
unfoldable pub changed : {A : Type 0} → ℕ → A → (ℕ → A) → ℕ → A
changed c a f x = but c a f x

-- the cells of asks, in their order
abbrev pub cells : {M : Type 0} → List (Pair M) → List ℕ
cells [] = []
cells (p ∷ ps) = p.cell ∷ cells ps

-- the first finishing of a cell in a log
unfoldable pub found : {M : Type 0} → Log M → ℕ → Option (Finishing M)
found [] x = none
found (f ∷ log) x = cond (x == f.cell) (some f) (found log x)

-- the first, or else the second
unfoldable pub or_else : {A : Type 0} → Option A → Option A → Option A
or_else (some a) o = some a
or_else none o = o

-- the value of a finishing, or else this one
unfoldable pub result_or : {M : Type 0} → Option (Finishing M) → M → M
result_or (some f) v = f.result
result_or none v = v

module _ {M : Type 0} where
  -- the definitions that it leaves
  unfoldable pub defs : Past M → ℕ → Option (Def M)
  defs (start s) x = none
  defs (p ▹ refused q said) x = defs p x
  defs (p ▹ edited c v) x = defs p x
  defs (p ▹ defined c text d) x = changed c (some d) (defs p) x
  defs (p ▹ cleared c) x = changed c none (defs p) x
  defs (p ▹ queried c lent log o report) x = defs p x

  -- a cell's last finishing since its definition
  unfoldable pub last : Past M → ℕ → Option (Finishing M)
  last (start s) x = none
  last (p ▹ refused q said) x = last p x
  last (p ▹ edited c v) x = last p x
  last (p ▹ defined c text d) x = changed c none (last p) x
  last (p ▹ cleared c) x = changed c none (last p) x
  last (p ▹ queried c lent log o report) x = or_else (found log x) (last p x)

  -- the past up to and with the last query that finished a cell since its definition
  unfoldable pub up_to : Past M → ℕ → Option (Past M)
  up_to (start s) x = none
  up_to (p ▹ refused q said) x = up_to p x
  up_to (p ▹ edited c v) x = up_to p x
  up_to (p ▹ defined c text d) x = changed c none (up_to p) x
  up_to (p ▹ cleared c) x = changed c none (up_to p) x
  up_to (p ▹ queried c lent log o report) x = elim (found log x) [ some f ↦ some (p ▹ queried c lent log o report) | none ↦ up_to p x ]

  -- what a cell reaches, where `lasts` has each cell's last finishing: the asks of it, and what those reach
  pub data Reaches (lasts : ℕ → Option (Finishing M)) : ℕ → ℕ → Type 0 where
    directly : {x y : ℕ} {f : Finishing M} → lasts x ≡ some f → In y (cells f.asks) → Reaches lasts x y
    beyond : {x y z : ℕ} {f : Finishing M} → lasts x ≡ some f → In y (cells f.asks) → Reaches lasts y z → Reaches lasts x z

  -- the traces of a cell in a report
  unfoldable pub traces_of : List (Run M) → ℕ → List (Trace M)
  traces_of [] x = []
  traces_of (r ∷ rs) x = cond (x == r.cell) (r.trace ∷ traces_of rs x) (traces_of rs x)

  -- the traces of a cell's runs since its definition, newest first; a query runs a cell at most once
  unfoldable pub runs_of : Past M → ℕ → List (Trace M)
  runs_of (start s) x = []
  runs_of (p ▹ refused q said) x = runs_of p x
  runs_of (p ▹ edited c v) x = runs_of p x
  runs_of (p ▹ defined c text d) x = changed c [] (runs_of p) x
  runs_of (p ▹ cleared c) x = changed c [] (runs_of p) x
  runs_of (p ▹ queried c lent log o report) x = traces_of report x ++ runs_of p x

  -- the kept traces of a cell: the newest, as many as the depth
  unfoldable pub kept : ℕ → Past M → ℕ → List (Trace M)
  kept depth p x = take depth (runs_of p x)

module _ {M : Type 0} (blank : M) where
  -- the stored values that it leaves, of inputs and of defined cells; a query stores those of the cells that it finishes
  unfoldable pub stored : Past M → ℕ → M
  stored (start s) x = s x
  stored (p ▹ refused q said) x = stored p x
  stored (p ▹ edited c v) x = changed c v (stored p) x
  stored (p ▹ defined c text d) x = stored p x
  stored (p ▹ cleared c) x = changed c blank (stored p) x
  stored (p ▹ queried c lent log o report) x = result_or (found log x) (stored p x)

  -- what a past leaves for working out afresh
  abbrev pub state : Past M → State M
  state p = record { stored = stored p; defs = defs p }

  -- the call touches the cell `y`: an edit to an unequal value, a definition and a clearing touch theirs
  unfoldable pub Touches : Past M → Call M → ℕ → Type 0
  Touches p (refused q said) y = ⊥
  Touches p (edited c v) y = (y ≡ c) × ¬ (v ≡ stored p c)
  Touches p (defined c text d) y = y ≡ c
  Touches p (cleared c) y = y ≡ c
  Touches p (queried c lent log o report) y = ⊥

  -- since the past `t`, no touch has fallen on a cell that `x` reached then
  pub data Still (t : Past M) (x : ℕ) : Past M → Type 0 where
    then : Still t x t
    since : {p : Past M} {k : Call M} → Still t x p → ((y : ℕ) → Touches p k y → ¬ Reaches (last t) x y) → Still t x (p ▹ k)

  -- the first touch since the past `t` on a cell that `x` reached then fell on `y`
  pub data Fallen (t : Past M) (x : ℕ) : Past M → ℕ → Type 0 where
    falls : {p : Past M} {k : Call M} {y : ℕ} → Still t x p → Touches p k y → Reaches (last t) x y → Fallen t x (p ▹ k) y
    fell : {p : Past M} {k : Call M} {y : ℕ} → Fallen t x p y → Fallen t x (p ▹ k) y

  -- the defined cell `x` is in doubt, and `y` is its cause
  pub data Cause (p : Past M) (x : ℕ) : ℕ → Type 0 where
    -- no query has finished it since its definition
    never : {d : Def M} → defs p x ≡ some d → up_to p x ≡ none → Cause p x x
    -- a touch has fallen since the last query that finished it
    touched : {d : Def M} {t : Past M} {y : ℕ} → defs p x ≡ some d → up_to p x ≡ some t → Fallen t x p y → Cause p x y

  -- a cell is in doubt if there is a cause
  abbrev pub InDoubt : Past M → ℕ → Type 0
  InDoubt p x = (y : ℕ) × Cause p x y

  -- a trace fits if each of its pairs holds the value that working out afresh gives. The path is empty here; on the
  -- path that leads to it, a cell that finishes comes to the same (`AlikeOnTheWay` of `Theorems`)
  unfoldable pub Fits : Past M → Trace M → Type 0
  Fits p t = (q : Pair M) → In q t.asks → (log : Log M) × Afresh (state p) [] q.cell log (gave q.value)

  -- a query that finishes the cell runs it: it is in doubt, and no kept trace fits
  unfoldable pub Runs : ℕ → Past M → ℕ → Type 0
  Runs depth p x = InDoubt p x × ((t : Trace M) → In t (kept depth p x) → ¬ Fits p t)

  -- `Report depth p seen log report`: the runs among the finishings of a log, in the order of first finishing, each
  -- with its cause and its trace; `seen` has the cells that finished before
  pub data Report (depth : ℕ) (p : Past M) : List ℕ → Log M → List (Run M) → Type 0 where
    -- nothing finishes any more
    end : {seen : List ℕ} → Report depth p seen [] []
    -- a cell finishes for the first time, and runs
    ran : {seen : List ℕ} {f : Finishing M} {log : Log M} {r : List (Run M)} {y : ℕ}
        → ¬ In f.cell seen → Runs depth p f.cell → Cause p f.cell y
        → Report depth p (f.cell ∷ seen) log r
        → Report depth p seen (f ∷ log) (record { cell = f.cell; cause = y; trace = record { asks = f.asks; result = f.result } } ∷ r)
    -- a cell finishes for the first time, and does not run
    idle : {seen : List ℕ} {f : Finishing M} {log : Log M} {r : List (Run M)}
        → ¬ In f.cell seen → ¬ Runs depth p f.cell
        → Report depth p (f.cell ∷ seen) log r → Report depth p seen (f ∷ log) r
    -- a cell finishes once more
    again : {seen : List ℕ} {f : Finishing M} {log : Log M} {r : List (Run M)}
        → In f.cell seen → Report depth p seen log r → Report depth p seen (f ∷ log) r
