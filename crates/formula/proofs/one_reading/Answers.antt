use Rattle.formula.proofs.Places.{one_reading_lem}
use Rattle.formula.proofs.one_reading.Goals as goal

pub returns : goal.returns
returns c = one_reading_lem
