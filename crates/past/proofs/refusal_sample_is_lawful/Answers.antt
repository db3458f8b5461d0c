use Rattle.past.proofs.Samples.{refusals_lawful}
use Rattle.past.proofs.refusal_sample_is_lawful.Goals as goal

pub returns : goal.returns
returns c = refusals_lawful
