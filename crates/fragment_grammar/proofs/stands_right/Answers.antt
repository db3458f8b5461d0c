use Rattle.fragment_grammar.proofs.Standing.{stands_right_lem}
use Rattle.fragment_grammar.proofs.stands_right.Goals as goal

pub returns : goal.returns
returns c = stands_right_lem
