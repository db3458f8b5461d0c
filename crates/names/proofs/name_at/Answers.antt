use Rattle.std.proofs.Common.{◌/◌, ◌<◌, arith}
use Rattle.names.specs.Names.{row_count}
use Rattle.names.proofs.Standing.{stands, short_at, long_at, made_number}
use Rattle.names.proofs.name_at.Goals as goal
use Rattle.names.proofs.name_at.Goals.{in-Some+else-long-le-ROWS, in_default}

pub returns-in_err-column : goal.returns-in_err-column
returns-in_err-column c =
    rw c.from_residual.ensures (λ m rest w e. c.in_err-column.ensures (m / row_count) (omega arith) (stands _ _ m rest w e).column)

pub returns-in_err-offset_at : goal.returns-in_err-offset_at
returns-in_err-offset_at c =
    rw c.from_residual-in_err-offset_at.ensures (λ m rest w e. let s = (stands c.args.text.now c.args.at m rest w e).digit in let l = s.2 in c.in_err-offset_at.ensures s.0 (omega arith) s.3)

pub returns-then-row-eq0 : goal.returns-then-row-eq0
returns-then-row-eq0 c m rest w e =
    let s = (stands c.args.text.now c.args.at m rest w e).digit in
    let z = c.if-row-eq0.true in let b = c.in_ok-offset_at.ensures.1.1 in let s1 = s.1 in let s3 = s.3.1 in omega arith

pub returns-then-long-le-ROWS : goal.returns-then-long-le-ROWS
returns-then-long-le-ROWS c =
    let k = c.in_ok-column.ensures in let r = c.in_ok-offset_at.ensures in let l = c.in-Some.ensures in
    let p : 0 < c.in_ok-offset_at.field-0 = omega (arith, c.if-row-eq0.false) in
    rw (made_number c.in_ok-cell.cell.0 _ c.in_ok-cell.ensures, c.from.ensures, c.from-row.ensures)
    (long_at c.args.text.now c.args.at c.in_ok-column.column c.in_ok-offset_at.field-0 c.in-Some.low (omega arith) p (omega arith) (omega arith) k.1 r.1 l.1)

pub returns : goal.returns
returns c =
    let k = c.in_ok-column.ensures in let r = c.in_ok-offset_at.ensures in
    let p : 0 < c.in_ok-offset_at.field-0 = omega (arith, c.if-row-eq0.false) in
    rw (made_number c.in_ok-cell-2.cell.0 _ c.in_ok-cell-2.ensures, c.from-row.ensures)
    (short_at c.args.text.now c.args.at c.in_ok-column.column c.in_ok-offset_at.field-0 (omega arith) p (omega arith) k.1 r.1
    (λ low l b. elim c.match-offset_at.branch [
      | in-Some+else-long-le-ROWS w ↦ (let x = w.in-Some.ensures.1.1 in let y = b.1 in omega (arith, w.if-long-le-ROWS.false))
      | in_default w ↦ absurd (w.in_default.ensures low (omega arith) b)
    ]))
