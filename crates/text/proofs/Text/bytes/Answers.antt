-- Four words put down one behind the other. Assumes the contracts of `copy_from_slice` and `to_le_bytes`.
use Rattle.std.proofs.Common.{◌≡◌, ◌∙◌, refl, arith}
use Rattle.text.specs.Text.{bytes_of, word_bytes, text_bytes}
use Rattle.text.specs.Words.{word_bytes_eight}
use Rattle.text.proofs.Text.bytes.Goals as goal

pub returns : goal.returns
unfolding bytes_of
returns c =
    let a : c.copy_from_slice.new.self ≡ word_bytes c.args.self.a = c.copy_from_slice.ensures.after ∙ (c.to_le_bytes.ensures ∙ word_bytes_eight c.args.self.a (omega arith)) in
    let b : c.copy_from_slice-2.new.self ≡ word_bytes c.args.self.b = c.copy_from_slice-2.ensures.after ∙ (c.to_le_bytes-2.ensures ∙ word_bytes_eight c.args.self.b (omega arith)) in
    let d : c.copy_from_slice-3.new.self ≡ word_bytes c.args.self.c = c.copy_from_slice-3.ensures.after ∙ (c.to_le_bytes-3.ensures ∙ word_bytes_eight c.args.self.c (omega arith)) in
    let e : c.copy_from_slice-4.new.self ≡ word_bytes c.args.self.d = c.copy_from_slice-4.ensures.after ∙ (c.to_le_bytes-4.ensures ∙ word_bytes_eight c.args.self.d (omega arith)) in
    rw (a, b, d, e) (refl {a = text_bytes c.args.self})
