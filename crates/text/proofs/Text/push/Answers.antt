-- A byte behind a text. Assumes the contract of `extended`.
use Rattle.std.proofs.Common.{true, ◌&&◌, [], ◌∷◌, Option, sym, ap, subst}
use Rattle.text.specs.Text.{text_means, Extends}
use Rattle.text.specs.declared.Text.{Text}
use Rattle.text.proofs.Records.{extends}
use Rattle.text.proofs.Text.push.Goals as goal

pub returns-then-is_printable-clause-means : goal.returns-then-is_printable-clause-means
returns-then-is_printable-clause-means c =
    let t = c.args.self in
    let more = c.args.byte ∷ [] in
    let P : Option Text → Type 0 = Extends (text_means t) more in
    λ h. subst P (sym c.extended.ensures) (extends t more (ap (λ b. b && true) h))
