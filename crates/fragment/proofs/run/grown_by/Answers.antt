use Rattle.std.proofs.Common.{[], ◌∷◌, map, ap, subst, zero-le, rules}
use Rattle.text.specs.Text.{text_canon, text_means}
use Rattle.fragment_grammar.specs.Grammar.{Sound}
use Rattle.fragment_grammar.specs.Meaning.{brought}
use Rattle.fragment.specs.Readings.{item_means}
use Rattle.fragment.proofs.Running.{grew_joined, plain_printable}
use Rattle.fragment.proofs.run.grown_by.Goals as goal

pub returns-in-Plain : goal.returns-in-Plain
returns-in-Plain c =
    let s = subst (λ i. Sound (item_means i)) c.in-Plain.is c.requires in
    grew_joined _ (text_means c.args.before) (c.in-Plain.byte ∷ []) (map text_canon c.args.answers.now) 0
    (ap (λ i. brought (item_means i) (map text_canon c.args.answers.now)) c.in-Plain.is) zero-le zero-le c.push.result (c.push.ensures.means (plain_printable c.in-Plain.byte s)) c.joined.result (search rules)
