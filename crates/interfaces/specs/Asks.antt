-- The cells that a run asked for.
use Rattle.std.specs.Prelude.{List, take}
use Rattle.interfaces.specs.declared.asked.Asked.{Asked}
use Rattle.interfaces.specs.declared.cell.Cell.{Cell}

-- the cells that were asked for, in their order; the places behind them are not used
abbrev pub asked_cells : Asked → List Cell
asked_cells a = take a.len a.cells
