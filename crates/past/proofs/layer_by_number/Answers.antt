use Rattle.past.proofs.Layers.{layer_apart}
use Rattle.past.proofs.layer_by_number.Goals as goal

pub returns : goal.returns
returns g c = λ blank locks stands depth own p c lent log n m at layer chain r h. layer_apart stands own blank locks depth p c lent log n m at layer chain r h
