use Rattle.sheet_parts.proofs.Tokens.{digit_by}
use Rattle.sheet_parts.proofs.digit_at.Goals as goal

pub returns : goal.returns
returns c = digit_by c.args.text.now c.args.at c.offset_at.result c.offset_at.ensures
