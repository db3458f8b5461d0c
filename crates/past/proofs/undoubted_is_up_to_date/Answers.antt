use Rattle.past.proofs.Doubt.{sure_current}
use Rattle.past.proofs.undoubted_is_up_to_date.Goals as goal

pub returns : goal.returns
returns g c = λ blank locks stands depth same p h x d s n. sure_current blank locks stands depth same p h x d s n
