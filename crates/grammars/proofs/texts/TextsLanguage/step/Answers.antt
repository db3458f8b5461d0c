use Rattle.std.proofs.Common.{◌≤◌, length, ap, arith}
use Rattle.interfaces.specs.Cells.{text_limit}
use Rattle.definitions.proofs.HeldTexts.{text_short}
use Rattle.grammars.proofs.texts.TextsLanguage.step.Goals as goal

pub returns : goal.returns
returns g c =
    let e = ap length c.text.ensures in
    let s = text_short c.args.self.now.memory.bytes.now c.args.cell.0 in
    let l : length c.text.result.now ≤ text_limit = omega arith in
    rw c.text.ensures at (c.step_of.ensures l)
