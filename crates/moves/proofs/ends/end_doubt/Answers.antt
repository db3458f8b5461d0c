use Rattle.interfaces.specs.Cells.{number_of}
use Rattle.table.specs.Records.{record_in}
use Rattle.moves.proofs.Seeing.{closes}
use Rattle.moves.proofs.ends.end_doubt.Goals as goal

pub returns : goal.returns
returns g c = closes g.V.Value.canon (g.S.Store.shows c.args.parts.now.store) (g.S.Store.shows c.write.new.self) (g.S.Store.locked c.args.parts.now.store) (g.S.Store.locked c.write.new.self)
    (g.L.Language.means c.args.parts.now.language) (g.R.Rebuilder.traces c.args.parts.now.rebuilder) (record_in c.args.parts.now.table) (record_in c.change.new.self)
    (number_of c.args.cell) (g.V.Value.canon c.args.value) c.get-row.result c.args.asked
    c.write.ensures.values c.write.ensures.locks c.get-row.ensures.row c.change.ensures
