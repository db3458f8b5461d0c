-- The normal form has as many bytes as the record means.
use Rattle.std.proofs.Common.{ap, ◌∙◌}
use Rattle.text.specs.declared.Text.{Text}
use Rattle.text.specs.Packing.{form}
use Rattle.text.proofs.Text.len.Goals as goal

pub returns : goal.returns
returns c = c.from.ensures ∙ (ap (λ (t : Text). t.len) c.settled-normal.ensures ∙ (form c.args.self).count)
