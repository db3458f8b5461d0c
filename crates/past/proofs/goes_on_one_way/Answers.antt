use Rattle.past.proofs.Decided.{goes_one_way}
use Rattle.past.proofs.goes_on_one_way.Goals as goal

pub returns : goal.returns
returns g c = λ blank locks stands depth p k k' e u v. goes_one_way blank locks stands depth p k k' e u v
