-- A text behind a text. Assumes the contract of `extended`.
use Rattle.std.proofs.Common.{Option, sym, ◌∙◌, ap, subst}
use Rattle.text.specs.Text.{text_means, text_extended, Extends}
use Rattle.text.specs.declared.Text.{Text}
use Rattle.text.specs.Packing.{form}
use Rattle.text.proofs.Records.{extends}
use Rattle.text.proofs.Text.append.Goals as goal

pub returns-clause-means : goal.returns-clause-means
returns-clause-means c =
    let t = c.args.self in
    let more = text_means c.args.other in
    let P : Option Text → Type 0 = Extends (text_means t) more in
    subst P (sym (c.extended.ensures ∙ ap (text_extended t) (c.as_slice.ensures ∙ c.write.ensures))) (extends t more (form c.args.other).printable)
