use Rattle.past.proofs.Kept.{kept_right}
use Rattle.past.proofs.fitting_is_right.Goals as goal

pub returns : goal.returns
returns g c = λ blank locks stands depth p h x d t e i k. kept_right blank locks stands depth p h x d t e i k
