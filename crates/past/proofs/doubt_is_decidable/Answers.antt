use Rattle.past.proofs.Decided.{dec_doubt}
use Rattle.past.proofs.doubt_is_decidable.Goals as goal

pub returns : goal.returns
returns g c = λ blank locks stands depth same p h x d s. dec_doubt blank locks stands depth same p h x d s
