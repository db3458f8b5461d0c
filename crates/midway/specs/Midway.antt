-- A query in progress, after the past `p`: what the workbook shows with the log and the report so far, where the
-- working-out of a cell stands, and what it comes to.
use Rattle.std.specs.Prelude.{◌≡◌, ℕ, ◌<◌, Bool, true, List, [], ◌∷◌, ◌++◌, length, take}
use Rattle.std.proofs.Math.Option.{none, some}
use Rattle.interfaces.specs.Cells.{ask_limit}
use Rattle.interfaces.specs.Tasks.{asks, Def}
use Rattle.interfaces.specs.Traces.{Pair, Trace}
use Rattle.past.specs.Afresh.{In, State, Finishing, Log, Outcome, gave, values, Steps, Afresh}
use Rattle.past.specs.Past.{Past, Run, changed, found, or_else, result_or, defs, last, traces_of, runs_of, kept, stored, state, Cause, InDoubt, Fits, Report}
use Rattle.view.specs.View.{View, is_defined, asked_in}

-- no cell stands twice
abbrev pub Distinct : List ℕ → Type 0
Distinct [] = Unit {0}
Distinct (x ∷ l) = ¬ In x l × Distinct l

-- the finishing `f` is a whole working-out, and all of it is in the log
pub record Full {M : Type 0} (s : State M) (log : Log M) (f : Finishing M) : Type 0 where
  pub path : List ℕ
  pub d : Def M
  pub before : Log M
  pub def_is : s.defs f.cell ≡ some d
  pub on_path : In f.cell path
  pub steps : Steps s path f.cell d [] (before ++ (f ∷ [])) (gave f.result)
  pub within : (g : Finishing M) → In g before → In g log

-- the cell `x` got the value `v` and its doubt ended, with these asked cells; all else but traces is as it was
pub record Ended {M : Type 0} (w w' : View M) (x : ℕ) (v : M) (cs : List ℕ) : Type 0 where
  pub stored_is : (k : ℕ) → w'.stored k ≡ changed x v w.stored k
  pub locked_is : (k : ℕ) → w'.locked k ≡ w.locked k
  pub defs_is : (k : ℕ) → w'.defs k ≡ w.defs k
  pub marked_is : (k : ℕ) → w'.marked k ≡ w.marked k
  pub cause_is : (k : ℕ) → w'.cause k ≡ changed x none w.cause k
  pub asked_is : (k : ℕ) → w'.asked k ≡ changed x cs w.asked k

-- the definition asks for the second pairs in turn, after the first
pub data Asking {M : Type 0} (d : Def M) : List (Pair M) → List (Pair M) → Type 0 where
  begun : {had : List (Pair M)} → Asking d had []
  then_asked : {had rest : List (Pair M)} {q : Pair M} → d (values had) ≡ asks q.cell → length had < ask_limit
      → Asking d (had ++ (q ∷ [])) rest → Asking d had (q ∷ rest)

-- the steps from the beginning, whose log is `m`, go on from these pairs after a log of `more`
pub record Sooner {M : Type 0} (s : State M) (path : List ℕ) (x : ℕ) (d : Def M) (pairs : List (Pair M)) (more m : Log M) (o : Outcome M) : Type 0 where
  pub rest : Log M
  pub is : m ≡ more ++ rest
  pub steps : Steps s path x d pairs rest o

module _ {M : Type 0} (blank : M) (locks : ℕ → Bool) (depth : ℕ) (p : Past M) where
  -- what the workbook shows in the midst of a query, with the log and the report so far
  pub record Mid (l : Log M) (r : List (Run M)) (w : View M) : Type 0 where
    -- the log has whole working-outs
    pub full : (f : Finishing M) → In f l → Full (state blank p) l f
    -- the report is that of the log
    pub report : Report blank depth p [] l r
    -- a cell of the log has the value of its finishing, any other the one from before
    pub values_are : (x : ℕ) → w.stored x ≡ result_or (found l x) (stored blank p x)
    pub locks_are : (x : ℕ) → w.locked x ≡ locks x
    pub defs_are : (x : ℕ) → w.defs x ≡ defs p x
    pub marks_are : (x : ℕ) → w.marked x ≡ is_defined (defs p x)
    -- the runs of the report are recorded
    pub traces_are : (x : ℕ) → w.traces x ≡ take depth (traces_of r x ++ runs_of p x)
    -- in doubt are those of before that are not in the log
    pub doubts : (x y : ℕ) → w.cause x ≡ some y → (found l x ≡ none) × Cause blank p x y
    pub calm : (x : ℕ) → w.cause x ≡ none → found l x ≡ none → ¬ InDoubt blank p x
    -- the asked cells are those of the last finishing
    pub asked_are : (x : ℕ) → w.asked x ≡ asked_in (or_else (found l x) (last p x))

  -- the pair holds what working out afresh gives
  abbrev pub Rightly : Pair M → Type 0
  Rightly q = (log : Log M) × Afresh (state blank p) [] q.cell log (gave q.value)

  -- no kept trace of the cell fits
  abbrev pub NoneFits : ℕ → Type 0
  NoneFits x = (t : Trace M) → In t (kept depth p x) → ¬ Fits blank p t

  -- the cell `x`, last on the path and in doubt, has asked for these pairs; the log so far ends with what they finished
  pub record Ready (l : Log M) (path : List ℕ) (x : ℕ) (d : Def M) (pairs : List (Pair M)) (running : Bool) : Type 0 where
    pub def_is : defs p x ≡ some d
    pub on_path : In x path
    -- the path has cells in doubt, none twice and none finished
    pub distinct : Distinct path
    pub path_doubts : (y : ℕ) → In y path → (found l y ≡ none) × InDoubt blank p y
    -- the log from before, and what the pairs finished
    pub early : Log M
    pub since : Log M
    pub log_is : l ≡ early ++ since
    -- the steps from the beginning are those of the pairs and then the rest
    pub back : (m : Log M) (o : Outcome M) → Steps (state blank p) path x d pairs m o → Steps (state blank p) path x d [] (since ++ m) o
    pub forth : (m : Log M) (o : Outcome M) → Steps (state blank p) path x d [] m o → Sooner (state blank p) path x d pairs since m o
    -- the definition asked for these pairs, and they are right
    pub asking : Asking d [] pairs
    pub rights : (q : Pair M) → In q pairs → Rightly q
    -- a cell runs only where no kept trace fits
    pub none_fits : running ≡ true → NoneFits x

  -- what following the cell from these pairs to its end comes to: more of the log and of the report
  pub record Followed (l : Log M) (r : List (Run M)) (path : List ℕ) (x : ℕ) (d : Def M) (pairs : List (Pair M)) (after : View M) (o : Outcome M) : Type 0 where
    pub log : Log M
    pub report : List (Run M)
    pub steps : Steps (state blank p) path x d pairs log o
    pub mid : Mid (l ++ log) (r ++ report) after

  -- a cell may be brought up to date on this path: no cell of the path is finished, and it is not on it if it is in doubt
  pub record Open (l : Log M) (w : View M) (path : List ℕ) (a : ℕ) : Type 0 where
    pub distinct : Distinct path
    pub path_doubts : (y : ℕ) → In y path → (found l y ≡ none) × InDoubt blank p y
    pub off_path : (y : ℕ) → w.cause a ≡ some y → ¬ In a path

  -- what bringing a cell up to date on a path comes to
  pub record Brought (l : Log M) (r : List (Run M)) (path : List ℕ) (a : ℕ) (after : View M) (o : Outcome M) : Type 0 where
    pub log : Log M
    pub report : List (Run M)
    pub afresh : Afresh (state blank p) path a log o
    pub off_path : (d : Def M) → defs p a ≡ some d → ¬ In a path
    pub mid : Mid (l ++ log) (r ++ report) after
