use Rattle.rows.proofs.Rows.{forgotten}
use Rattle.rebuilders.proofs.traces.TracesRebuilder.forget.Goals as goal

pub returns : goal.returns
returns g c = forgotten g.V.Value.canon g.V.Value.blank g.row.D _ _ _ _ c.clear_row.ensures
