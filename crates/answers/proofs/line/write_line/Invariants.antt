use Rattle.std.proofs.Common.{◌≡◌, take}
use Rattle.std.specs.List.{flat_map}
use Rattle.answers.specs.Fronts.{Wrote}
use Rattle.answers.proofs.line.write_line.Given as goal

abbrev pub invariant-loop-piece : goal.invariant-loop-piece
invariant-loop-piece l =
    Wrote (flat_map (λ x. x.now) (take l.piece-index l.pieces)) l.initial.line.bytes.now l.line.bytes.now l.line.len
    × (l.line.bytes.ghost_name ≡ l.initial.line.bytes.ghost_name)
