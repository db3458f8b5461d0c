use Rattle.past.proofs.Since.{cause_one}
use Rattle.past.proofs.one_cause.Goals as goal

pub returns : goal.returns
returns g c = λ blank p x y y' u v. cause_one blank u v
