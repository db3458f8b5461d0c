use Rattle.std.proofs.Common.{◌≡◌, ◌++◌, take, vec_items, ap, arith, rules, true-eqb}
use native.Mathlib.Nat.{sub-zero}
use Rattle.interfaces.specs.Refusals.{told}
use Rattle.session.proofs.Running.{under_more, under_all}
use Rattle.session.proofs.answer_lines.Goals as goal

pub loop-rest-preserved : goal.loop-rest-preserved
loop-rest-preserved g c =
    let a = c.answer_line.ensures in
    let e : vec_items c.extend_from_slice.new.self ≡ vec_items c.loop-rest.out ++ take c.unwrap-len.result c.answer_line.new.buffer = search (rules, sub-zero) in (
      under_more g.P.Printed.written g.P.Printed.unread _ _ c.unwrap-len.result c.loop-rest.invariant.0 c.cut_line.ensures.cut a.answered
          (omega (arith, c.loop-rest.invariant.1)) (ap told c.unwrap-len.ensures) e a.locks,
      search rules,
    )

pub returns : goal.returns
returns g c = under_all g.P.Printed.written g.P.Printed.unread _ c.loop-rest.invariant.0 (true-eqb _ _ c.loop-rest-test.ensures)
