use Rattle.rows.proofs.Rows.{fresh}
use Rattle.rows.proofs.table.fresh_rows.Goals as goal

pub returns : goal.returns
returns g c k = fresh g.row.D 256 k _ c.new.ensures
