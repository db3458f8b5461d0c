use Rattle.std.proofs.Common.{None, ap}
use Rattle.tryout.specs.Alias.{alias_of}
use Rattle.interfaces.proofs.Tables.{everywhere}
use Rattle.tryout.proofs.AliasesLanguage.wipe.Goals as goal

pub returns : goal.returns
returns g c k = ap alias_of (everywhere 256 k None)
