use Rattle.sheet_reader.proofs.Exits.{passed_on}
use Rattle.sheet_reader.proofs.Parts.{whole_took, whole_left, whole_fails}
use Rattle.sheet_reader.proofs.read.Goals as goal

pub returns-in_err-got : goal.returns-in_err-got
returns-in_err-got c = rw (passed_on _ _ c.from_residual.ensures.1)
    (whole_fails c.args.text.now _ c.if-text-gt-TEXT.false c.in_err-got.ensures)

pub returns-then-next-text : goal.returns-then-next-text
returns-then-next-text c =
    let e = c.in_ok-got.ensures in whole_left c.args.text.now c.args.answers.now c.in_ok-got.got _ c.if-text-gt-TEXT.false e.0 e.1 c.if-next-text.true

pub returns : goal.returns
returns c = whole_took c.args.text.now c.args.answers.now c.in_ok-got.got _ c.if-text-gt-TEXT.false c.in_ok-got.ensures.0 c.if-next-text.false
