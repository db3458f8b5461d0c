use Rattle.std.proofs.Common.{refl}
use Rattle.rows.proofs.Rows.{uncounted}
use Rattle.rebuilders.proofs.traces.Traces.new.Goals as goal

pub returns : goal.returns
returns g c = record {
  empty = λ k. uncounted g.V.Value.canon g.V.Value.blank g.row.D _ c.args.values.now k (c.fresh_rows.ensures k);
  holds = refl;
  lent = refl;
}
