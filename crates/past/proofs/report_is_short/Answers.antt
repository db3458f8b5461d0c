use Rattle.past.proofs.Room.{report_short}
use Rattle.past.proofs.report_is_short.Goals as goal

pub returns : goal.returns
returns g c = λ blank locks stands depth p c lent log o r h. report_short blank locks stands depth p c lent log o r h
