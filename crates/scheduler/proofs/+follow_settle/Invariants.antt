use Rattle.std.proofs.Common.{◌+◌, ◌-◌, ◌*◌, cond, length}
use Rattle.interfaces.specs.Asks.{asked_cells}
use Rattle.interfaces.specs.Cells.{cell_count, ask_limit, number_of}
use Rattle.view.specs.View.{View}
use Rattle.parts.specs.declared.Parts.{Parts}
use Rattle.parts.specs.Shown.{view_of}
use Rattle.moves.specs.Paths.{path_cells}
use Rattle.scheduler.proofs.Going.{Going}
use Rattle.scheduler.proofs.+follow_settle.Given as goal

abbrev pub view : (g : goal.Over) → Parts g.row.S.Denot g.row.L.Denot g.row.R.Denot → View g.row.V.Denot
view g e = view_of g.V.Value.canon g.S.Store.shows g.S.Store.locked g.L.Language.means g.R.Rebuilder.traces e

abbrev pub invariant-follow-loop-value : goal.invariant-follow-loop-value
invariant-follow-loop-value g l =
    Going g.V.Value.blank g.R.Rebuilder.depth g.V.Value.canon (number_of l.cell) (view g l.initial.parts) (path_cells l.initial.path) l.initial.report
    (view g l.parts) (path_cells l.path) l.asked l.running l.work l.report

abbrev pub decreases-follow-loop-value : goal.decreases-follow-loop-value
decreases-follow-loop-value g l = cond l.running 0 10 + (ask_limit - length (asked_cells l.asked))

abbrev pub decreases-follow : goal.decreases-follow
decreases-follow g l = (cell_count - length (path_cells l.path.now)) * 2 + 1

abbrev pub decreases-settle : goal.decreases-settle
decreases-settle g l = (cell_count - length (path_cells l.path.now)) * 2
