-- Working out afresh: what a cell comes to from stored values and definitions alone, whatever was worked out before.
-- It assumes nothing of the values, and of a definition only that the answers so far fix its step. It is a relation:
-- that it holds of some outcome, and of one only, is a theorem.
use Rattle.std.specs.Prelude.{◌≡◌, ℕ, ◌<◌, ◌≤◌, List, [], ◌∷◌, ◌++◌, length}
use Rattle.std.proofs.Math.Option.{Option, none, some}
use Rattle.interfaces.specs.Cells.{ask_limit}
use Rattle.interfaces.specs.Tasks.{asks, gives, faults, Def}
use Rattle.interfaces.specs.Traces.{Pair}

-- `a` stands in the list
pub data In {A : Type 0} (a : A) : List A → Type 0 where
  first : {b : A} {l : List A} → a ≡ b → In a (b ∷ l)
  later : {b : A} {l : List A} → In a l → In a (b ∷ l)

-- all stored values, and the definitions; a cell without definition is an input, and of the stored values only
-- those of inputs are read afresh
pub record State (M : Type 0) : Type 0 where
  pub stored : ℕ → M
  pub defs : ℕ → Option (Def M)

-- a cell that finished: its asks in their order, with their answers, and the value that it gave
pub record Finishing (M : Type 0) : Type 0 where
  pub cell : ℕ
  pub asks : List (Pair M)
  pub result : M

-- the finishings of a working-out, in their order; a cell that is asked for twice finishes twice, and alike
abbrev pub Log : Type 0 → Type 0
Log M = List (Finishing M)

-- who has given a fault its number
pub data Layer : Type 0 where
  engine : Layer
  language : Layer

-- a value; or a fault at a cell, and the chain of the cells that were being worked out, the queried one first
pub data Outcome (M : Type 0) : Type 0 where
  gave : M → Outcome M
  fault : (number mark cell : ℕ) → (layer : Layer) → (chain : List ℕ) → Outcome M

-- the answers of asks, in their order
abbrev pub values : {M : Type 0} → List (Pair M) → List M
values [] = []
values (p ∷ ps) = p.value ∷ values ps

module _ {M : Type 0} (s : State M) where
  -- `Steps path c d asked log o`: the cell `c`, whose definition is `d`, is the last of the path, and its asks so far
  -- are `asked`; from there its steps come to the outcome `o`, and `log` has what finishes on the way
  pub data Steps : List ℕ → ℕ → Def M → List (Pair M) → Log M → Outcome M → Type 0 where
    -- a given value finishes the cell
    finishes : {path : List ℕ} {c : ℕ} {d : Def M} {asked : List (Pair M)} {v : M}
        → d (values asked) ≡ gives v
        → Steps path c d asked (record { cell = c; asks = asked; result = v } ∷ []) (gave v)
    -- a step that faults ends everything, with the number and the mark of the definition
    breaks : {path : List ℕ} {c n m : ℕ} {d : Def M} {asked : List (Pair M)}
        → d (values asked) ≡ faults n m
        → Steps path c d asked [] (fault n m c language path)
    -- a ninth ask faults with 17, whatever cell it is for
    ninth : {path : List ℕ} {c a : ℕ} {d : Def M} {asked : List (Pair M)}
        → d (values asked) ≡ asks a → ask_limit ≤ length asked
        → Steps path c d asked [] (fault 17 a c engine path)
    -- otherwise an ask for a defined cell on the path faults with 16
    circle : {path : List ℕ} {c a : ℕ} {d e : Def M} {asked : List (Pair M)}
        → d (values asked) ≡ asks a → length asked < ask_limit → s.defs a ≡ some e → In a path
        → Steps path c d asked [] (fault 16 a c engine path)
    -- an ask for an input is answered by its stored value
    reads : {path : List ℕ} {c a : ℕ} {d : Def M} {asked : List (Pair M)} {log : Log M} {o : Outcome M}
        → d (values asked) ≡ asks a → length asked < ask_limit → s.defs a ≡ none
        → Steps path c d (asked ++ (record { cell = a; value = s.stored a } ∷ [])) log o
        → Steps path c d asked log o
    -- an ask for another defined cell is answered by what that comes to, on the path so lengthened
    descends : {path : List ℕ} {c a : ℕ} {d e : Def M} {asked : List (Pair M)} {v : M} {below log : Log M} {o : Outcome M}
        → d (values asked) ≡ asks a → length asked < ask_limit → s.defs a ≡ some e → ¬ In a path
        → Steps (path ++ (a ∷ [])) a e [] below (gave v)
        → Steps path c d (asked ++ (record { cell = a; value = v } ∷ [])) log o
        → Steps path c d asked (below ++ log) o
    -- and if that faults, everything has ended; what finished before has finished
    sinks : {path : List ℕ} {c a n m at : ℕ} {d e : Def M} {asked : List (Pair M)} {below : Log M} {layer : Layer} {chain : List ℕ}
        → d (values asked) ≡ asks a → length asked < ask_limit → s.defs a ≡ some e → ¬ In a path
        → Steps (path ++ (a ∷ [])) a e [] below (fault n m at layer chain)
        → Steps path c d asked below (fault n m at layer chain)

  -- `Afresh path c log o`: the cell `c`, worked out on a path that does not hold it yet; a query's path is empty
  pub data Afresh (path : List ℕ) (c : ℕ) : Log M → Outcome M → Type 0 where
    -- an input has its stored value, and does not finish
    input : s.defs c ≡ none → Afresh path c [] (gave (s.stored c))
    -- a defined cell takes its steps, beginning with no answers
    worked : {d : Def M} {log : Log M} {o : Outcome M} → s.defs c ≡ some d
        → Steps (path ++ (c ∷ [])) c d [] log o → Afresh path c log o
