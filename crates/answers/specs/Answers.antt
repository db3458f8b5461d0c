-- The answer lines, byte for byte. Each ends with byte 10.
use Rattle.std.specs.Prelude.{ℕ, List, [], ◌∷◌, ◌++◌, codes, decimal}
use Rattle.interfaces.specs.Refusals.{Said, no, no_at}
use Rattle.names.specs.Names.{name_of}

-- a line was accepted
abbrev pub ok_line : List ℕ
ok_line = codes "ok" ++ 10 ∷ []

-- a line was refused: its number, and with 6 the place
abbrev pub refusal_line : Said → List ℕ
refusal_line (no n) = codes "no " ++ (decimal n ++ 10 ∷ [])
refusal_line (no_at n place) = codes "no " ++ (decimal n ++ (codes " " ++ (decimal place ++ 10 ∷ [])))

-- a cell and its written value
abbrev pub value_line : ℕ → List ℕ → List ℕ
value_line cell written = name_of cell ++ (codes " = " ++ (written ++ 10 ∷ []))
