-- The number of cells, and the lengths that follow from it. `src/cell.rt` has the same numbers for the code;
-- its contracts tie the two together.
use Rattle.std.specs.Prelude.{ℕ, ◌+◌, ◌*◌, cond, Some, None, Option, ◌==◌, nat_lt}
use Rattle.interfaces.specs.declared.cell.Cell.{Cell}

-- how many cells a workbook has
abbrev pub cell_count : ℕ
cell_count = 256

-- how many asks one task may make
abbrev pub ask_limit : ℕ
ask_limit = 8

-- how many bytes a definition may have
abbrev pub text_limit : ℕ
text_limit = 48

-- values lent to a query: room for the asks of every cell
abbrev pub work_length : ℕ
work_length = cell_count * ask_limit

-- values for one trace of every cell: its asks and its result
abbrev pub trace_length : ℕ
trace_length = cell_count * (ask_limit + 1)

-- bytes for one definition of every cell
abbrev pub definition_length : ℕ
definition_length = cell_count * text_limit

-- the number of a cell
abbrev pub number_of : Cell → ℕ
number_of c = c.0

-- the numbers that a cell can have
abbrev pub cell_numbered : ℕ → Option ℕ
cell_numbered n = cond (nat_lt n cell_count) (Some n) None

-- `f` everywhere but at the number `c`, where it is `a`
abbrev pub but : {A : Type 0} → ℕ → A → (ℕ → A) → ℕ → A
but c a f k = cond (k == c) a (f k)
