use Rattle.std.proofs.Common.{◌-◌, length}
use Rattle.fragment.proofs.item.+row_from.Given as goal

abbrev pub decreases-row_from : goal.decreases-row_from
decreases-row_from l = length l.text.now - l.at
