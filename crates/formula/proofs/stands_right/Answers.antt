use Rattle.formula.proofs.Places.{stands_right_lem}
use Rattle.formula.proofs.stands_right.Goals as goal

pub returns : goal.returns
returns c = stands_right_lem
