use Rattle.std.proofs.Common.{map, refl, ap}
use Rattle.midway.specs.Planning.{plain_trace}
use Rattle.calls.proofs.Answering.{made_shows}
use Rattle.engine.proofs.Workbook.new.Goals as goal

pub returns : goal.returns
returns g c =
    made_shows g.V.Value.blank (g.S.Store.locked c.args.store) g.R.Rebuilder.depth (λ k. g.V.Value.canon (g.S.Store.shows c.args.store k)) _
    (λ k. refl) (λ k. refl) c.wipe.ensures (λ k. ap (map (plain_trace g.V.Value.canon)) (c.wipe-2.ensures k)) c.new-table.ensures.marks c.new-table.ensures.causes c.new-table.ensures.asked
