use Rattle.std.proofs.Common.{None, ap}
use Rattle.interfaces.proofs.Tables.{everywhere}
use Rattle.buyer.specs.Held.{held_means}
use Rattle.buyer.proofs.language.FallbacksLanguageWhole.wipe.Goals as goal

pub returns : goal.returns
returns c k = ap held_means (everywhere 256 k None)
