use Rattle.std.proofs.Common.{rules}
use Rattle.rows.proofs.Rows.{uncounted}
use Rattle.rebuilders.proofs.traces.TracesRebuilder.wipe.Goals as goal

pub returns : goal.returns
returns g c k = uncounted g.V.Value.canon g.V.Value.blank g.row.D _ c.args.self.now.values.now k (search rules)
