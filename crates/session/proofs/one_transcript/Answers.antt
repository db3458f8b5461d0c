use Rattle.session.proofs.Once.{one_transcript_lem}
use Rattle.session.proofs.one_transcript.Goals as goal

pub returns : goal.returns
returns c = one_transcript_lem
