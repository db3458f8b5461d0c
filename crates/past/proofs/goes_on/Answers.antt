use Rattle.past.proofs.Decided.{goes_on}
use Rattle.past.proofs.goes_on.Goals as goal

pub returns : goal.returns
returns g c = λ blank locks stands depth same p h q n. goes_on blank locks stands depth same p h q n
