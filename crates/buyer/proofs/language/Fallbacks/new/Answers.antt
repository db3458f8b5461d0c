use Rattle.std.proofs.Common.{None}
use Rattle.interfaces.proofs.Tables.{everywhere}
use Rattle.buyer.proofs.language.Fallbacks.new.Goals as goal

pub returns : goal.returns
returns c k = everywhere 256 k None
