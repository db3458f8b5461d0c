use Rattle.buyer.proofs.Rightly.{fallback_places}
use Rattle.buyer.proofs.language.places.Goals as goal

pub returns : goal.returns
returns c = fallback_places
