use Rattle.past.proofs.Total.{total}
use Rattle.past.proofs.some_outcome.Goals as goal

pub returns : goal.returns
returns g c = λ s h path c. total s h path c
