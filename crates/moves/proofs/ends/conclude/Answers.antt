use Rattle.std.proofs.Common.{length, take, ap, ◌∙◌}
use Rattle.interfaces.specs.Asks.{asked_cells}
use Rattle.interfaces.specs.Cells.{number_of}
use Rattle.table.specs.Records.{record_in}
use Rattle.parts.specs.Shown.{view_of}
use Rattle.moves.proofs.Seeing.{concludes}
use Rattle.moves.proofs.ends.conclude.Goals as goal

pub returns : goal.returns
returns g c = record {
  concludes = concludes g.V.Value.canon g.met.V.Value.steady g.R.Rebuilder.depth (g.S.Store.shows c.args.parts.now.store) (g.S.Store.locked c.args.parts.now.store)
      (g.L.Language.means c.args.parts.now.language) (g.R.Rebuilder.traces c.args.parts.now.rebuilder) (g.R.Rebuilder.traces c.record.new.self) (record_in c.args.parts.now.table)
      (view_of g.V.Value.canon g.S.Store.shows g.S.Store.locked g.L.Language.means g.R.Rebuilder.traces c.end_doubt.new.parts)
      (number_of c.args.cell) (asked_cells c.args.asked) _ (take (length (asked_cells c.args.asked)) c.args.work.now) _ c.args.value
      c.as_slice.ensures.cells (c.front-answers.ensures ∙ ap (λ n. take n c.args.work.now) c.len.ensures.count) c.record.ensures.traces c.end_doubt.ensures;
  report = c.report_run.ensures;
}
