use Rattle.std.proofs.Common.{map, length, take}
use Rattle.engine.specs.Shown.{shown_by}
use Rattle.replay.specs.Replays.{request_of, Performs}
use Rattle.replay.proofs.perform_all.Given as goal

abbrev pub invariant-loop-call : goal.invariant-loop-call
invariant-loop-call g l =
    Performs g.V.Value.blank g.L.Language.stands g.R.Rebuilder.depth (map (request_of g.V.Value.canon (length l.initial.work)) (take l.call-index l.calls))
    (shown_by g.V.Value g.S.Store g.L.Language g.R.Rebuilder l.initial.workbook)
    (shown_by g.V.Value g.S.Store g.L.Language g.R.Rebuilder l.workbook)
