use Rattle.past.proofs.Table.{placed}
use Rattle.past.proofs.placing_agrees.Goals as goal

pub returns : goal.returns
returns g c = λ locks stands p c text l. placed locks stands p c text l
