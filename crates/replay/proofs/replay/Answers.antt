use Rattle.std.proofs.Common.{length}
use Rattle.replay.proofs.Performing.{replays}
use Rattle.replay.proofs.replay.Goals as goal

pub returns : goal.returns
returns g c =
    replays g.V.Value.canon g.V.Value.blank (g.S.Store.locked c.args.store) g.L.Language.stands g.R.Rebuilder.depth _ _ _ _ _ c.query-answer.result
    (λ i. record { report = length c.args.report.now; chain = length c.args.chain.now; work = c.perform_all.auto.work i })
    c.new-workbook.ensures c.perform_all.ensures c.query-answer.ensures
