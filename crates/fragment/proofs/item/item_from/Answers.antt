use Rattle.std.proofs.Common.{get_or, sym, ◌∙◌}
use Rattle.fragment_grammar.specs.Grammar.{opening}
use Rattle.std.proofs.lemmas.Bool.{eq-eqb, ne_eqb}
use Rattle.fragment.proofs.Placing.{item_braces, item_none}
use Rattle.fragment.proofs.item.item_from.Goals as goal

pub returns-then-byte-eq123 : goal.returns-then-byte-eq123
returns-then-byte-eq123 c =
    c.braces_from.ensures
    ∙ sym (item_braces c.args.text.now c.args.at c.if-is_plain.ensures (sym (eq-eqb (get_or c.args.text.now c.args.at 0) opening c.if-byte-eq123.true)))

pub returns : goal.returns
returns c = sym (item_none c.args.text.now c.args.at c.if-is_plain.ensures (sym (ne_eqb (get_or c.args.text.now c.args.at 0) opening c.if-byte-eq123.false)))
