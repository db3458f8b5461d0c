use Rattle.std.proofs.Common.{◌+◌, leb, [], ◌∷◌, length, refl, ◌∙◌, arith}
use Rattle.std.proofs.lemmas.List.{length-append}
use Rattle.std.proofs.lemmas.Bool.{cond-true, cond-false, le-leb, lt-leb}
use Rattle.interfaces.specs.Tasks.{faults}
use Rattle.text.specs.Text.{text_means}
use Rattle.fragment_grammar.specs.Grammar.{insert}
use Rattle.fragment_grammar.specs.Meaning.{meaning}
use Rattle.fragment_grammar.proofs.twice.Goals as goal

pub returns : goal.returns
returns c = record {
  means = meaning (insert 0 ∷ insert 0 ∷ []);
  stands = refl;
  first = refl;
  second = λ t e. cond-true (leb (0 + length (text_means t)) 32) _ (faults 14 0) (le-leb (0 + length (text_means t)) 32 (omega arith));
  fits = λ t e.
      cond-true (leb (0 + length (text_means t)) 32) _ (faults 14 0) (le-leb (0 + length (text_means t)) 32 (omega arith))
      ∙ cond-true (leb (length (text_means t) + length (text_means t)) 32) _ (faults 14 4) (le-leb (length (text_means t) + length (text_means t)) 32 (omega arith));
  gives32 = λ t e. let l = length-append (text_means t) (text_means t) in omega arith;
  faults17 = λ t e.
      cond-true (leb (0 + length (text_means t)) 32) _ (faults 14 0) (le-leb (0 + length (text_means t)) 32 (omega arith))
      ∙ cond-false (leb (length (text_means t) + length (text_means t)) 32) _ (faults 14 4) (lt-leb (length (text_means t) + length (text_means t)) 32 (omega arith));
}
