use Rattle.past.proofs.Elsewhere.{elsewhere}
use Rattle.past.proofs.alike_on_every_path.Goals as goal

pub returns : goal.returns
returns g c = λ s path c log v a path' h. elsewhere s a path' h
