use Rattle.std.proofs.Common.{[], length, sym, ap, ◌∙◌, arith}
use Rattle.std.proofs.lemmas.List.{append-nil, drop_all}
use Rattle.interfaces.specs.Cells.{number_of}
use Rattle.names.specs.Names.{name_of}
use Rattle.names.proofs.read_name.Goals as goal

pub returns-in_err-cell : goal.returns-in_err-cell
returns-in_err-cell c = rw c.from_residual.ensures (λ m w e. c.in_err-cell.ensures m [] w (sym e ∙ sym (append-nil (name_of m))))

pub returns-then-next-text : goal.returns-then-next-text
returns-then-next-text c m w e =
    let n = c.in_ok-cell.ensures in
    let l = n.longest m [] w (sym e ∙ sym (append-nil (name_of m))) in
    let t = ap length e in let i = n.next_is in
    omega (arith, c.if-next-text.true)

pub returns : goal.returns
returns c =
    let n = c.in_ok-cell.ensures in
    let d = drop_all c.in_ok-cell.next c.args.text.now (omega (arith, c.if-next-text.false)) in
    let r = n.reads in let a = append-nil (name_of (number_of c.in_ok-cell.cell)) in (n.within, cc)
