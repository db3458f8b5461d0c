-- Eight bytes make a word. Assumes the contracts of `first_chunk` and `from_le_bytes`.
use Rattle.std.proofs.Common.{◌≡◌, ◌-◌, length, take, drop, ap, ◌∙◌, arith, length-drop}
use Rattle.std.proofs.lemmas.List.{take_all, length-take-le}
use Rattle.text.specs.Text.{word_of}
use Rattle.text.specs.Words.{word_of_eight}
use Rattle.text.proofs.word.Goals as goal

pub returns : goal.returns
returns c =
    let bs = drop c.args.at c.args.bytes.now in
    let y = c.unwrap.result.now in
    let n : length bs ≡ 32 - c.args.at = length-drop c.args.at c.args.bytes.now ∙ ap (λ k. k - c.args.at) c.told-bytes in
    let f = rw c.unwrap.ensures at c.first_chunk.ensures.cases in
    let e : y ≡ take 8 bs = f.same ∙ ap (take 8) (take_all (32 - c.args.at) bs (omega arith)) in
    c.from_le_bytes.ensures ∙ (word_of_eight y (ap length e ∙ length-take-le 8 bs (omega arith)) ∙ ap word_of e)
