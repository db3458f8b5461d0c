-- How the row of a cell and the lent memory stand for the cell's traces. What memory holds outside the blocks of
-- the traces that a row counts is of no account.
use Rattle.std.specs.Prelude.{◌≡◌, ℕ, ◌≢◌, List, [], map, get_or, slice_index_or, slice_set}
use Rattle.std.proofs.Common.{zero-le}
use Rattle.std.specs.List.{range_with_len}
use Rattle.interfaces.specs.declared.asked.Asked.{Asked}
use Rattle.interfaces.specs.declared.cell.Cell.{Cell}
use Rattle.interfaces.specs.Asks.{asked_cells}
use Rattle.interfaces.specs.Cells.{ask_limit}
use Rattle.interfaces.specs.Traces.{Trace, pairs_of, Planned, runs, keeps, next}
use Rattle.rows.specs.declared.row.Row.{Row}
use Rattle.rows.specs.Blocks.{block_at, block}
use Rattle.rows.specs.Rings.{place_in, before, one_up}

-- what stands past a table's end
abbrev pub no_asked : Asked
no_asked = record { cells = []; len = 0; short = zero-le }

abbrev pub no_row : (depth : ℕ) → Row depth
no_row depth = record { asked = []; newest = 0; count = 0; round = zero-le; few = zero-le }

-- the row of the cell `c` counts nothing, and no other row is changed
pub record Cleared (depth c : ℕ) (old new : List (Row depth)) : Type 0 where
  pub count : (get_or new c (no_row depth)).count ≡ 0
  pub others : (k : ℕ) → k ≢ c → slice_index_or new k (no_row depth) ≡ slice_index_or old k (no_row depth)

-- the row of the cell `c` has one trace more in front, and no other row is changed
pub record Pushed (depth c : ℕ) (asked : Asked) (old new : List (Row depth)) : Type 0 where
  pub newest : (get_or new c (no_row depth)).newest ≡ before depth (get_or old c (no_row depth)).newest
  pub count : (get_or new c (no_row depth)).count ≡ one_up depth (get_or old c (no_row depth)).count
  pub asks : (get_or new c (no_row depth)).asked ≡ slice_set (get_or old c (no_row depth)).asked (before depth (get_or old c (no_row depth)).newest) asked
  pub others : (k : ℕ) → k ≢ c → slice_index_or new k (no_row depth) ≡ slice_index_or old k (no_row depth)

-- cells that were asked for beside a block of values: as many answers, and the result at the end
abbrev pub trace_of : {V : Type 0} → (V → V) → V → List Cell → List V → Trace V
trace_of canon blank asked values = record { asks = pairs_of canon asked values; result = canon (slice_index_or values ask_limit blank) }

module _ {V : Type 0} (canon : V → V) (blank : V) (depth : ℕ) where
  -- the trace at a place of the row of the cell `k`
  abbrev pub trace_at : Row depth → List V → ℕ → ℕ → Trace V
  trace_at row values k place = trace_of canon blank (asked_cells (slice_index_or row.asked place no_asked)) (block (block_at place k) values)

  -- the trace that is older than `age` others
  abbrev pub trace_aged : Row depth → List V → ℕ → ℕ → Trace V
  trace_aged row values k age = trace_at row values k (place_in depth row.newest age)

  unfoldable pub row_traces : Row depth → List V → ℕ → List (Trace V)
  row_traces row values k = map (trace_aged row values k) (range_with_len 0 row.count)

  abbrev pub traces_of : List (Row depth) → List V → ℕ → List (Trace V)
  traces_of rows values k = row_traces (slice_index_or rows k (no_row depth)) values k

-- of the plans by a trace and by the older ones: a trace of exactly the pairs wins, then the newer
abbrev pub preferred : {M : Type 0} → Planned M → Planned M → Planned M
preferred runs older = older
preferred (keeps v) older = keeps v
preferred (next c) runs = next c
preferred (next c) (keeps v) = keeps v
preferred (next c) (next d) = next c
