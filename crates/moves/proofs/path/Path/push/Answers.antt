use Rattle.std.proofs.Common.{sym, ◌∷◌, [], ◌++◌, ◌∙◌, arith, length-append, take_all}
use Rattle.std.proofs.lemmas.List.{take_more_set, length-take, take-append-le}
use Rattle.interfaces.specs.Cells.{cell_count}
use Rattle.moves.specs.Paths.{path_cells}
use Rattle.moves.proofs.path.Path.push.Goals as goal

pub returns-then-self-lt-CELLS-clause-cells : goal.returns-then-self-lt-CELLS-clause-cells
returns-then-self-lt-CELLS-clause-cells c =
    take_more_set c.args.self.now.cells c.args.self.now.len c.args.cell (omega arith)
    ∙ sym (take_all cell_count (path_cells c.args.self.now ++ c.args.cell ∷ []) (omega (arith, length-append (path_cells c.args.self.now) (c.args.cell ∷ []), length-take c.args.self.now.len c.args.self.now.cells)))

pub returns-else-self-lt-CELLS-clause-cells : goal.returns-else-self-lt-CELLS-clause-cells
returns-else-self-lt-CELLS-clause-cells c =
    let n = length-take c.args.self.now.len c.args.self.now.cells in
    sym (take-append-le cell_count (path_cells c.args.self.now) (c.args.cell ∷ []) (omega (arith, n)) ∙ take_all cell_count (path_cells c.args.self.now) (omega (arith, n)))
