use Rattle.std.proofs.Common.{◌<◌, ◌≤◌, ap, arith}
use Rattle.interfaces.specs.Traces.{plan_means}
use Rattle.rows.proofs.Plans.{weighed_more, weighed_all, weighed_kept}
use Rattle.rows.proofs.Rows.{plan_of_row}
use Rattle.rows.proofs.held.Held.plan.Goals as goal

pub loop-age-preserved : goal.loop-age-preserved
loop-age-preserved g c =
    let l : c.loop-age.age < c.args.self.now.row.now.count = omega (arith, c.count-age-end.ensures) in
    weighed_more g.V.Value.canon g.V.Value.alike c.loop-age.invariant _ _ _ l c.aged.ensures c.plan.ensures c.prefer-best.ensures

pub returns-in-Keep : goal.returns-in-Keep
returns-in-Keep g c =
    let l : c.loop-age.age < c.args.self.now.row.now.count = omega (arith, c.count-age-end.ensures) in
    let more = weighed_more g.V.Value.canon g.V.Value.alike c.loop-age.invariant _ _ _ l c.aged.ensures c.plan.ensures c.prefer-best.ensures in
    plan_of_row g.V.Value.canon g.V.Value.blank g.row.D g.V.Value.alike _ _ _ _ _
    (weighed_kept g.V.Value.canon g.V.Value.alike more _ (ap (plan_means g.V.Value.canon) c.in-Keep.is))

pub returns : goal.returns
returns g c =
    let l : c.args.self.now.row.now.count ≤ c.loop-age.age = omega (arith, c.count-age-end.ensures, c.loop-age-test.false) in
    plan_of_row g.V.Value.canon g.V.Value.blank g.row.D g.V.Value.alike _ _ _ _ _
    (weighed_all g.V.Value.canon g.V.Value.alike c.loop-age.invariant l)
