use Rattle.past.proofs.Room.{chain_leads}
use Rattle.past.proofs.chain_leads_to_fault.Goals as goal

pub returns : goal.returns
returns g c = λ blank locks stands depth p c lent log n m at layer chain r h. chain_leads blank locks stands depth p c lent log n m at layer chain r h
