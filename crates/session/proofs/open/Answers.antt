use Rattle.std.proofs.Common.{refl, ◌∙◌, true-eqb}
use Rattle.std.proofs.lemmas.Result.{err_from_is_err_and}
use Rattle.session.specs.Session.{long, unopened, opened}
use Rattle.session.proofs.Once.{one_cut, no_cut}
use Rattle.session.proofs.open.Goals as goal

pub returns-then-input-gt-SCRIPT : goal.returns-then-input-gt-SCRIPT
returns-then-input-gt-SCRIPT c = long c.if-input-gt-SCRIPT.true

pub returns-then-is_empty : goal.returns-then-is_empty
returns-then-is_empty c = unopened c.if-input-gt-SCRIPT.false (λ f r k d e o. no_cut _ f r (true-eqb _ _ c.if-is_empty.ensures) e)

pub returns-in_err-opening : goal.returns-in_err-opening
returns-in_err-opening c =
    let p = err_from_is_err_and c.from_residual.result c.from_residual.ensures.1 in
    let r = c.in_err-opening.ensures in
    rw (p.1, p.2, r.0) (unopened c.if-input-gt-SCRIPT.false
    (λ first rest k d e n. let i = one_cut _ _ _ _ _ _ refl c.cut_line.ensures.cut e in r.1 k d (i.0 ∙ n)))

pub returns : goal.returns
returns c out s = opened c.in_ok-opening.opening.kind c.in_ok-opening.opening.depth c.if-input-gt-SCRIPT.false c.cut_line.ensures.cut c.in_ok-opening.ensures s
