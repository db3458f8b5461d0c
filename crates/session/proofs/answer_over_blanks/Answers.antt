use Rattle.std.proofs.Common.{◌∙◌}
use Rattle.interfaces.specs.Cells.{cell_count}
use Rattle.session.proofs.Running.{all_blank}
use Rattle.session.proofs.answer_over_blanks.Goals as goal

pub returns : goal.returns
returns g c =
    let v = c.new-store.ensures.holds ∙ (c.as_mut_slice.ensures.value ∙ c.in_ok-values.ensures) in
    rw (← all_blank g.P.Value.canon g.P.Value.blank _ cell_count g.met.P.Value.plain v) c.answer_lines.ensures
