-- The cells that are being worked out.
use Rattle.std.specs.Prelude.{List, take}
use Rattle.interfaces.specs.declared.cell.Cell.{Cell}
use Rattle.moves.specs.declared.path.Path.{Path}

-- the cells that are being worked out, in their order; the places behind them are not used
abbrev pub path_cells : Path → List Cell
path_cells p = take p.len p.cells
