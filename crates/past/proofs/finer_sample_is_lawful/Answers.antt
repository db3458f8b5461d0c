use Rattle.past.proofs.Samples.{finer_lawful}
use Rattle.past.proofs.finer_sample_is_lawful.Goals as goal

pub returns : goal.returns
returns c = finer_lawful
