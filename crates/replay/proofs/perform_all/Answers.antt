use Rattle.std.proofs.lemmas.List.{take_all}
use Rattle.interfaces.specs.Refusals.{told}
use Rattle.replay.proofs.Performing.{none_yet, next_call}
use Rattle.replay.proofs.perform_all.Goals as goal

pub loop-call-init : goal.loop-call-init
loop-call-init g c = none_yet g.V.Value.blank g.L.Language.stands g.R.Rebuilder.depth _

pub loop-call-preserved : goal.loop-call-preserved
loop-call-preserved g c =
    next_call g.V.Value.blank g.L.Language.stands g.R.Rebuilder.depth g.V.Value.canon _ _ c.loop-call.auto.work c.args.calls.now c.loop-call.call-index c.call-item.result
    c.loop-call-test.true c.call-item.is (told c.perform.result) _ _ _ c.loop-call.invariant c.perform.ensures

pub returns : goal.returns
returns g c = simp (take_all c.loop-call.call-index c.args.calls.now c.loop-call-test.false) at c.loop-call.invariant
