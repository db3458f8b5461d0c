use Rattle.std.proofs.Common.{sym, ◌∙◌}
use Rattle.interfaces.specs.Cells.{number_of}
use Rattle.fragment_grammar.specs.Grammar.{colon}
use Rattle.fragment_grammar.specs.Reader.{led, empty_in}
use Rattle.fragment.proofs.Placing.{stands_yes, named_ok, led_yes}
use Rattle.fragment.proofs.item.filled_from.Goals as goal

pub returns-then-stands_at : goal.returns-then-stands_at
returns-then-stands_at c =
    let t = number_of c.args.tested in
    c.empty_from.ensures ∙ sym (named_ok c.args.text.now c.args.at (number_of c.in_ok-filled.filled) c.in_ok-filled.next (λ n. led colon (empty_in t n)) c.in_ok-filled.ensures.reads
    ∙ led_yes c.args.text.now c.in_ok-filled.next colon (empty_in t (number_of c.in_ok-filled.filled)) (stands_yes c.args.text.now c.in_ok-filled.next colon c.if-stands_at.ensures))
