use Rattle.fragment_grammar.proofs.Standing.{one_reading_lem}
use Rattle.fragment_grammar.proofs.one_reading.Goals as goal

pub returns : goal.returns
returns c = one_reading_lem
