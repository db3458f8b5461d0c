use Rattle.std.proofs.Common.{◌≡◌, false, [], map, refl, ap}
use mathlib.Core.Option.{none}
use Rattle.interfaces.specs.Cells.{number_of}
use Rattle.interfaces.specs.Asks.{asked_cells}
use Rattle.table.specs.Records.{number_in}
use Rattle.table.proofs.Marking.{everywhere_so}
use Rattle.table.proofs.Table.new.Goals as goal

pub returns : goal.returns
returns c = record {
  marks = λ k. everywhere_so (λ r. r.defined ≡ false) 256 k c.blank.result _ c.blank.ensures.plain refl;
  causes = λ k. everywhere_so (λ r. number_in r.cause ≡ none) 256 k c.blank.result _ (ap number_in c.blank.ensures.sure) refl;
  asked = λ k. everywhere_so (λ r. map number_of (asked_cells r.asked) ≡ []) 256 k c.blank.result _ (ap (map number_of) c.blank.ensures.idle) refl;
}
