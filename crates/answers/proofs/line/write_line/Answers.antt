use Rattle.std.proofs.Common.{◌≡◌, ℕ, ◌+◌, ◌<◌, List, [], length, replicate, Err, ap, ◌∙◌, arith, Bor, rules}
use Rattle.std.specs.List.{flat_map}
use Rattle.std.proofs.lemmas.Result.{err_from_is_err_and}
use Rattle.interfaces.specs.Refusals.{said}
use Rattle.answers.specs.Fronts.{line_left}
use Rattle.answers.proofs.Lines.{joined_step, joined_within, line_broken, wrote_length}
use Rattle.answers.proofs.line.write_line.Goals as goal

-- what stands past the last piece
nothing : Bor (List ℕ)
nothing = record { ref_ptr = (0, 0); now = [] }

pub returns-in_err-push : goal.returns-in_err-push
unfolding nothing
returns-in_err-push c =
    let p = err_from_is_err_and c.from_residual.result c.from_residual.ensures.1 in
    let f = c.in_err-push.ensures.put _ _ c.loop-piece.invariant.0 in
    let o = ap length c.new-line.ensures.none.holds in
    let j = ap length (joined_step (λ x. x.now) c.args.pieces.now c.loop-piece.piece-index nothing c.loop-piece-test.true) in
    let k = joined_within (λ x. x.now) c.args.pieces.now (c.loop-piece.piece-index + 1) in
    let l : length c.args.buffer.now < length (flat_map (λ x. x.now) c.args.pieces.now) = omega (arith, f.1) in
    let b = line_broken (flat_map (λ x. x.now) c.args.pieces.now) c.args.buffer.now l in
    let z : c.drop-line.new.self.0 ≡ line_left (flat_map (λ x. x.now) c.args.pieces.now) c.args.buffer.now =
    c.drop-line.ensures ∙ ap (λ n. replicate n 0) (wrote_length f.2 ∙ o) ∙ b.1 in
    record { answer = rw p.1 (ap Err (ap said p.2 ∙ f.0) ∙ b.0); left = search rules }
