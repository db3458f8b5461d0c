-- Scripts as bytes: how they fall into lines, and what a line says.
use Rattle.std.specs.Prelude.{◌≡◌, ℕ, ◌<◌, ◌≤◌, List, [], ◌∷◌, ◌++◌, length, codes, ◌≢◌, slice_index}
use Rattle.std.specs.List.{AllByRecursion}
use Rattle.interfaces.specs.Cells.{cell_count, number_of}
use Rattle.interfaces.specs.Refusals.{Said, no}
use Rattle.names.specs.Names.{name_of}
use Rattle.script.specs.declared.lines.Line.{Line}
use Rattle.script.specs.declared.lines.Line.TheVariants.{Set, Get}
use Rattle.script.specs.declared.lines.Kind.{Kind}
use Rattle.script.specs.declared.lines.Kind.TheVariants.{Sheet, Text}
use Rattle.script.specs.declared.lines.Depth.{Depth}
use Rattle.script.specs.declared.lines.Depth.TheVariants.{Zero, One, Four}

-- the most bytes of a script, and of a line without its byte 10
abbrev pub script_limit : ℕ
script_limit = 60000

abbrev pub line_limit : ℕ
line_limit = 64

-- no byte 10 among these
abbrev pub Unbroken : List ℕ → Type 0
Unbroken bytes = AllByRecursion (λ b. b ≢ 10) bytes

-- the first line of these bytes, and what follows it: a line ends with byte 10; a last one without it counts if it is not empty
pub data Cut : List ℕ → List ℕ → List ℕ → Type 0 where
  ended : (line rest : List ℕ) → Unbroken line → Cut (line ++ 10 ∷ rest) line rest
  last : (line : List ℕ) → Unbroken line → 0 < length line → Cut line line []

-- what a line asks for
pub data Request : Type 0 where
  sets : (cell : ℕ) (value : List ℕ) → Request
  gets : (cell : ℕ) → Request

-- a line by its form
pub data Reads : List ℕ → Request → Type 0 where
  set : (c : ℕ) (value : List ℕ) → c < cell_count → Reads (codes "set " ++ (name_of c ++ (codes " " ++ value))) (sets c value)
  get : (c : ℕ) → c < cell_count → Reads (codes "get " ++ name_of c) (gets c)

-- why a line is refused: it is too long, or of no known form
pub data Unread (line : List ℕ) : Said → Type 0 where
  long : line_limit < length line → Unread line (no 18)
  unknown : length line ≤ line_limit → ((r : Request) → Reads line r → ⊥) → Unread line (no 19)

-- a line that asks for `r`, and for nothing else
pub record ReadAs (line : List ℕ) (r : Request) : Type 0 where
  pub short : length line ≤ line_limit
  pub reads : Reads line r
  pub only : (q : Request) → Reads line q → q ≡ r

-- the first byte 10 stands at the place, or none does and the place is the length
pub record BreakAt (bytes : List ℕ) (place : ℕ) : Type 0 where
  pub within : place ≤ length bytes
  pub before : (k : ℕ) → k < place → slice_index bytes k ≢ 10
  pub here : place < length bytes → slice_index bytes place ≡ 10

-- what a line that was read means
abbrev pub asked : Line → Request
asked (Set c value) = sets (number_of c) value.now
asked (Get c) = gets (number_of c)

-- the depths that a first line names
abbrev pub depth_name : Depth → List ℕ
depth_name Zero = codes "0"
depth_name One = codes "1"
depth_name Four = codes "4"

abbrev pub kind_name : Kind → List ℕ
kind_name Sheet = codes "sheet"
kind_name Text = codes "text"

-- a first line names a kind and a depth
abbrev pub Opens : List ℕ → Kind → Depth → Type 0
Opens line kind depth = line ≡ kind_name kind ++ (codes " " ++ depth_name depth)
