use Rattle.std.proofs.Common.{◌≡◌, ◌+◌, ◌*◌, get_or, take, ap, ◌∙◌, subst, arith}
use Rattle.std.proofs.lemmas.List.{take_all}
use Rattle.interfaces.specs.Cells.{ask_limit, trace_length, number_of}
use Rattle.interfaces.specs.Asks.{asked_cells}
use Rattle.rows.specs.Blocks.{block_length, block_at, Wrote}
use Rattle.rows.specs.Rings.{before}
use Rattle.rows.specs.Kept.{no_row}
use Rattle.rebuilders.proofs.Pushing.{pushed}
use Rattle.rebuilders.proofs.traces.Traces.push.Goals as goal

pub returns : goal.returns
returns g c k =
    let cells = c.args.pairs.now.cells.now in
    let n = c.number.ensures.value in
    let p = c.push_row-place.ensures.place in
    let b : c.push_row-place.result * trace_length + c.number.result * block_length ≡ block_at (before g.row.D (get_or c.args.self.now.rows (number_of c.args.cell) (no_row g.row.D)).newest) (number_of c.args.cell) = omega arith in
    let w = subst (λ m. Wrote g.V.Value.blank m c.args.pairs.now.values.now c.args.res c.args.self.now.values.now c.keep.new.values) b (rw c.values.ensures at c.keep.ensures) in
    let holds : asked_cells c.new.result ≡ cells = c.new.ensures ∙ ap (take ask_limit) c.cells.ensures ∙ take_all ask_limit cells c.requires.few in
    pushed g.V.Value.canon g.V.Value.blank g.row.D c.args.self.now.rows c.push_row-place.new.rows c.args.self.now.values.now c.keep.new.values
    (number_of c.args.cell) c.new.result cells c.args.pairs.now.values.now c.args.res c.requires.depth (omega (arith, c.number.ensures.bound))
    c.push_row-place.ensures.cells c.push_row-place.ensures.places holds c.args.pairs.now.even c.push_row-place.ensures.rows w k
