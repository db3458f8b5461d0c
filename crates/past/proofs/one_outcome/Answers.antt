use Rattle.past.proofs.Alone.{afresh_alone}
use Rattle.past.proofs.one_outcome.Goals as goal

pub returns : goal.returns
returns g c = λ s path c log log' o o' u v. afresh_alone s u v
