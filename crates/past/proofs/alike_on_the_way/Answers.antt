use Rattle.past.proofs.Leading.{on_the_way}
use Rattle.past.proofs.alike_on_the_way.Goals as goal

pub returns : goal.returns
returns g c = λ s path c k log v a. on_the_way s k a
