use Rattle.std.proofs.Common.{◌≡◌, length, vec_items}
use Rattle.session.proofs.Running.{Under}
use Rattle.session.proofs.answer_lines.Given as goal

abbrev pub invariant-loop-rest : goal.invariant-loop-rest
invariant-loop-rest g l =
    Under g.P.Printed.written g.P.Printed.unread (g.S.Store.locked l.initial.store) (λ k. g.P.Value.canon (g.S.Store.shows l.initial.store k)) l.initial.rest (vec_items l.initial.out)
    (λ k. g.P.Value.canon (g.S.Store.shows l.store k)) (g.S.Store.locked l.store) l.rest (vec_items l.out)
    × (length l.buffer ≡ 1100)

abbrev pub decreases-loop-rest : goal.decreases-loop-rest
decreases-loop-rest g l = length l.rest
