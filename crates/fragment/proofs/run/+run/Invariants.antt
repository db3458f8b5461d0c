use Rattle.std.proofs.Common.{◌-◌, length}
use Rattle.fragment.proofs.run.+run.Given as goal

abbrev pub decreases-run : goal.decreases-run
decreases-run l = length l.text.now - l.at
