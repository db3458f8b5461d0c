-- The theorems, each as a statement over a type of values; a function of `src/lib.rt` carries each as its contract.
-- Where a touch must be told from an edit to an equal value, values are assumed to be equal or not.
use Rattle.std.specs.Prelude.{◌≡◌, ℕ, ◌<◌, ◌≤◌, Bool, false, ◌⊎◌, List, [], ◌∷◌, ◌++◌, length, Ok, Err}
use Rattle.std.proofs.Math.Option.{none, some}
use Rattle.interfaces.specs.Cells.{cell_count}
use Rattle.interfaces.specs.Refusals.{Said}
use Rattle.interfaces.specs.Tasks.{asks, Def, Verdict, legal, Own, placing}
use Rattle.interfaces.specs.Traces.{Pair, Trace}
use Rattle.past.specs.Afresh.{In, State, Finishing, Log, Layer, engine, Outcome, gave, fault, values, Afresh}
use Rattle.past.specs.Past.{Lent, Run, Request, define, Call, queried, request, about, Past, ◌▹◌, defs, last, Reaches, kept, stored, state, Cause, InDoubt, Fits}
use Rattle.past.specs.Law.{Refusable, Acceptable, Lawful}

-- working out afresh comes to an outcome, on any path, where nothing but cells is defined
abbrev pub SomeOutcome : Type 0 → Type 0
SomeOutcome M = (s : State M) → ((c : ℕ) → cell_count ≤ c → s.defs c ≡ none) → (path : List ℕ) (c : ℕ)
    → (log : Log M) × (o : Outcome M) × Afresh s path c log o

-- and to one only, by one log
abbrev pub OneOutcome : Type 0 → Type 0
OneOutcome M = (s : State M) (path : List ℕ) (c : ℕ) (log log' : Log M) (o o' : Outcome M)
    → Afresh s path c log o → Afresh s path c log' o' → (log ≡ log') × (o ≡ o')

-- a cell that finishes on one path finishes alike on every path that holds no cell of its log
abbrev pub AlikeOnEveryPath : Type 0 → Type 0
AlikeOnEveryPath M = (s : State M) (path : List ℕ) (c : ℕ) (log : Log M) (v : M) → Afresh s path c log (gave v)
    → (path' : List ℕ) → ((f : Finishing M) → In f log → ¬ In f.cell path') → Afresh s path' c log (gave v)

module _ {M : Type 0} (s : State M) where
  -- the definition `d` comes to ask for `a`, from these asks on; what it asks for before is worked out on the path
  pub data ComesTo (path : List ℕ) (d : Def M) (a : ℕ) : List (Pair M) → Type 0 where
    now : {asked : List (Pair M)} → d (values asked) ≡ asks a → ComesTo path d a asked
    next : {asked : List (Pair M)} {b : ℕ} {v : M} {log : Log M} → d (values asked) ≡ asks b → Afresh s path b log (gave v)
        → ComesTo path d a (asked ++ (record { cell = b; value = v } ∷ [])) → ComesTo path d a asked

  -- the path leads to the cell: each cell of it comes to ask for the next, and the last for this one
  pub data Leads : List ℕ → ℕ → Type 0 where
    begin : {c : ℕ} → Leads [] c
    onward : {path : List ℕ} {c a : ℕ} {d : Def M} → Leads path c
        → s.defs c ≡ some d → ComesTo (path ++ (c ∷ [])) d a [] → Leads (path ++ (c ∷ [])) a

-- a cell that finishes on the empty path finishes alike on every path that leads to it
abbrev pub AlikeOnTheWay : Type 0 → Type 0
AlikeOnTheWay M = (s : State M) (path : List ℕ) (c : ℕ) → Leads s path c
    → (log : Log M) (v : M) → Afresh s [] c log (gave v) → Afresh s path c log (gave v)

-- after a lawful past, something comes rightly of every request
abbrev pub GoesOn : Type 0 → Type 0
GoesOn M = (blank : M) (locks : ℕ → Bool) (stands : List ℕ → Verdict M) (depth : ℕ) → ((v w : M) → Dec (v ≡ w))
    → (p : Past M) → Lawful blank locks stands depth p → (q : Request M) → about q < cell_count
    → (k : Call M) × (request k ≡ q) × Lawful blank locks stands depth (p ▹ k)

-- and no two things: the past and the request fix what is said, answered and reported
abbrev pub GoesOnOneWay : Type 0 → Type 0
GoesOnOneWay M = (blank : M) (locks : ℕ → Bool) (stands : List ℕ → Verdict M) (depth : ℕ)
    → (p : Past M) (k k' : Call M) → request k ≡ request k'
    → Lawful blank locks stands depth (p ▹ k) → Lawful blank locks stands depth (p ▹ k') → k ≡ k'

-- placing a text comes to what the table of refusals asks for, and to the definition that the text stands for
pub record Placed {M : Type 0} (locks : ℕ → Bool) (stands : List ℕ → Verdict M) (p : Past M) (c : ℕ) (text : List ℕ) : Type 0 where
  pub accepts : (d : Def M) → placing stands text ≡ Ok d → Acceptable locks stands p (define c text) × (stands text ≡ legal d)
  pub refuses : (said : Said) → placing stands text ≡ Err said → Refusable locks stands p (define c text) said
  pub accepted : (d : Def M) → Acceptable locks stands p (define c text) → stands text ≡ legal d → placing stands text ≡ Ok d
  pub refused : (said : Said) → Refusable locks stands p (define c text) said → placing stands text ≡ Err said

-- it does so at every cell that is not locked
abbrev pub PlacingAgrees : Type 0 → Type 0
PlacingAgrees M = (locks : ℕ → Bool) (stands : List ℕ → Verdict M) (p : Past M) (c : ℕ) (text : List ℕ)
    → locks c ≡ false → Placed locks stands p c text

-- a cell in doubt has one cause
abbrev pub OneCause : Type 0 → Type 0
OneCause M = (blank : M) (p : Past M) (x y y' : ℕ) → Cause blank p x y → Cause blank p x y' → y ≡ y'

-- a defined cell is in doubt or not
abbrev pub DoubtIsDecidable : Type 0 → Type 0
DoubtIsDecidable M = (blank : M) (locks : ℕ → Bool) (stands : List ℕ → Verdict M) (depth : ℕ) → ((v w : M) → Dec (v ≡ w))
    → (p : Past M) → Lawful blank locks stands depth p → (x : ℕ) (d : Def M) → defs p x ≡ some d → Dec (InDoubt blank p x)

-- a cell is up to date: working it out afresh gives its stored value, by the asks of its last finishing, and nothing
-- that it reaches is in doubt
pub record UpToDate {M : Type 0} (blank : M) (p : Past M) (x : ℕ) : Type 0 where
  pub finishing : Finishing M
  pub last_is : last p x ≡ some finishing
  pub log : Log M
  pub afresh : Afresh (state blank p) [] x (log ++ (finishing ∷ [])) (gave (stored blank p x))
  pub below : (y : ℕ) → Reaches (last p) x y → (e : Def M) → defs p y ≡ some e → ¬ InDoubt blank p y

-- a defined cell that is not in doubt is up to date
abbrev pub UndoubtedIsUpToDate : Type 0 → Type 0
UndoubtedIsUpToDate M = (blank : M) (locks : ℕ → Bool) (stands : List ℕ → Verdict M) (depth : ℕ) → ((v w : M) → Dec (v ≡ w))
    → (p : Past M) → Lawful blank locks stands depth p
    → (x : ℕ) (d : Def M) → defs p x ≡ some d → ¬ InDoubt blank p x → UpToDate blank p x

-- a kept trace that fits is what working out afresh finds
abbrev pub FittingIsRight : Type 0 → Type 0
FittingIsRight M = (blank : M) (locks : ℕ → Bool) (stands : List ℕ → Verdict M) (depth : ℕ)
    → (p : Past M) → Lawful blank locks stands depth p
    → (x : ℕ) (d : Def M) (t : Trace M) → defs p x ≡ some d → In t (kept depth p x) → Fits blank p t
    → (log : Log M) × Afresh (state blank p) [] x (log ++ (record { cell = x; asks = t.asks; result = t.result } ∷ [])) (gave t.result)

-- a report has no more runs than there are cells
abbrev pub ReportIsShort : Type 0 → Type 0
ReportIsShort M = (blank : M) (locks : ℕ → Bool) (stands : List ℕ → Verdict M) (depth : ℕ)
    → (p : Past M) (c : ℕ) (lent : Lent) (log : Log M) (o : Outcome M) (report : List (Run M))
    → Lawful blank locks stands depth (p ▹ queried c lent log o report) → length report ≤ cell_count

-- a chain goes from one cell to another, and has no more cells than there are
pub record Chained (from to : ℕ) (chain : List ℕ) : Type 0 where
  pub after : List ℕ
  pub begins : chain ≡ from ∷ after
  pub before : List ℕ
  pub ends : chain ≡ before ++ (to ∷ [])
  pub short : length chain ≤ cell_count

-- the chain of a fault goes from the queried cell to the cell of the fault
abbrev pub ChainLeadsToFault : Type 0 → Type 0
ChainLeadsToFault M = (blank : M) (locks : ℕ → Bool) (stands : List ℕ → Verdict M) (depth : ℕ)
    → (p : Past M) (c : ℕ) (lent : Lent) (log : Log M) (number mark at : ℕ) (layer : Layer) (chain : List ℕ) (report : List (Run M))
    → Lawful blank locks stands depth (p ▹ queried c lent log (fault number mark at layer chain) report) → Chained c at chain

-- a fault is of the engine exactly if it has one of the engine's two numbers
pub record ToldApart (number : ℕ) (layer : Layer) : Type 0 where
  pub of_engine : layer ≡ engine → (number ≡ 16) ⊎ (number ≡ 17)
  pub to_engine : (number ≡ 16) ⊎ (number ≡ 17) → layer ≡ engine

-- so it is with every query, where the texts stand for definitions with faults of their own
abbrev pub LayerByNumber : Type 0 → Type 0
LayerByNumber M = (blank : M) (locks : ℕ → Bool) (stands : List ℕ → Verdict M) (depth : ℕ) → ((text : List ℕ) → Own (stands text))
    → (p : Past M) (c : ℕ) (lent : Lent) (log : Log M) (number mark at : ℕ) (layer : Layer) (chain : List ℕ) (report : List (Run M))
    → Lawful blank locks stands depth (p ▹ queried c lent log (fault number mark at layer chain) report) → ToldApart number layer
