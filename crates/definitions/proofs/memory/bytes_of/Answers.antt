use Rattle.definitions.proofs.HeldTexts.{bytes_spanned}
use Rattle.definitions.proofs.memory.bytes_of.Goals as goal

pub returns : goal.returns
returns c = bytes_spanned c.args.bytes.now c.args.cell.0 _ _ c.span_of-start.ensures.start c.span_of-start.ensures.end
