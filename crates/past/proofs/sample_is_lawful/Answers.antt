use Rattle.past.proofs.Samples.{sample_lawful}
use Rattle.past.proofs.sample_is_lawful.Goals as goal

pub returns : goal.returns
returns c = sample_lawful
