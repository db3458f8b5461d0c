use Rattle.std.proofs.Common.{replicate, refl}
use Rattle.fragment_grammar.specs.Grammar.{plain}
use Rattle.fragment_grammar.specs.Meaning.{meaning}
use Rattle.fragment_grammar.proofs.plain_33.Goals as goal

pub returns : goal.returns
returns c = record { means = meaning (replicate 33 (plain 97)); stands = refl; faults33 = refl }
