-- What the table holds of each cell.
use Rattle.std.specs.Prelude.{ℕ, Bool, false, List, [], map, Some, None, Option as Maybe, slice_index_or}
use Rattle.std.proofs.Math.Option.{Option, none, some}
use Rattle.std.proofs.Common.{lit≤}
use Rattle.interfaces.specs.declared.asked.Asked.{Asked}
use Rattle.interfaces.specs.declared.cell.Cell.{Cell}
use Rattle.interfaces.specs.Asks.{asked_cells}
use Rattle.interfaces.specs.Cells.{number_of}
use Rattle.table.specs.declared.Record.{Record}
use Rattle.table.specs.declared.Table.{Table}

-- no asked cells
abbrev pub no_asks : Asked
no_asks = record { cells = []; len = 0; short = lit≤ tt }

-- the record at a number; past the cells there is one of an input
abbrev pub record_in : Table → ℕ → Record
record_in t x = slice_index_or t.records x (record { defined = false; cause = None; asked = no_asks })

-- the number of a cell, if there is one
abbrev pub number_in : Maybe Cell → Option ℕ
number_in None = none
number_in (Some c) = some (number_of c)

-- of records: which cells are defined, the cause of each cell that is in doubt, and the asked cells
abbrev pub marked_in : (ℕ → Record) → ℕ → Bool
marked_in rows x = (rows x).defined

abbrev pub cause_in : (ℕ → Record) → ℕ → Option ℕ
cause_in rows x = number_in (rows x).cause

abbrev pub asked_in : (ℕ → Record) → ℕ → List ℕ
asked_in rows x = map number_of (asked_cells (rows x).asked)

-- whether a record is of a defined cell that is not in doubt
abbrev pub calm_by : Maybe Cell → Bool → Bool
calm_by None defined = defined
calm_by (Some c) defined = false

abbrev pub calm_record : Record → Bool
calm_record r = calm_by r.cause r.defined
