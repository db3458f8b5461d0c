-- The bytes of the normal form are those that the record means, with zeros behind them.
use Rattle.std.proofs.Common.{◌≡◌, length, drop, sym, ap, ◌∙◌, arith}
use Rattle.text.specs.Text.{text_bytes, text_means}
use Rattle.text.specs.declared.Text.{Text}
use Rattle.text.specs.Packing.{form}
use Rattle.interfaces.proofs.Zeros.{drop_padding}
use Rattle.text.proofs.TextPrinted.write.Goals as goal

pub invariant_of-result : goal.invariant_of-result
invariant_of-result c =
    let f = form c.args.self.now in
    let s = c.settled-text.ensures in
    let n : c.from.result ≡ length (text_means c.args.self.now) = c.from.ensures ∙ (ap (λ (t : Text). t.len) s ∙ f.count) in
    record {
      fits = omega (arith, f.short);
      padded = ap (drop c.from.result) (c.bytes.ensures ∙ (ap text_bytes s ∙ f.padded)) ∙ drop_padding (text_means c.args.self.now) c.from.result (sym n);
    }
