use Rattle.std.proofs.Common.{◌≡◌, replicate, vec_items}
use Rattle.session.proofs.blanks.Given as goal

abbrev pub invariant-loop : goal.invariant-loop
invariant-loop g l = vec_items l.values ≡ replicate l.counter g.P.Value.blank
