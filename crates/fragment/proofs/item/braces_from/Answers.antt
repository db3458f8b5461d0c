use Rattle.std.proofs.Common.{sym, ◌∙◌, arith}
use Rattle.interfaces.specs.Cells.{number_of}
use Rattle.fragment_grammar.specs.Grammar.{closing, question}
use Rattle.fragment_grammar.specs.Reader.{tested_in}
use Rattle.fragment.proofs.Placing.{stands_yes, stands_no, named_ok, tested_choice}
use Rattle.fragment.proofs.item.braces_from.Goals as goal

pub returns-then-stands_at-2 : goal.returns-then-stands_at-2
returns-then-stands_at-2 c =
    c.filled_from.ensures
    ∙ sym (named_ok c.args.text.now c.args.at (number_of c.in_ok-cell.cell) c.in_ok-cell.next tested_in c.in_ok-cell.ensures.reads
    ∙ tested_choice c.args.text.now c.in_ok-cell.next (number_of c.in_ok-cell.cell)
    (stands_no c.args.text.now c.in_ok-cell.next closing (omega arith) c.if-stands_at.ensures) (stands_yes c.args.text.now c.in_ok-cell.next question c.if-stands_at-2.ensures))
