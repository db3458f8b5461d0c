-- The written form of a number, both ways.
use Rattle.whole.proofs.Numerals.{whole_form_lem}
use Rattle.whole.proofs.whole_form.Goals as goal

pub returns : goal.returns
returns c = whole_form_lem
