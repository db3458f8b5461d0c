-- A letter, the row in decimal, and zeros behind it. Assumes the contract of `write_digits`.
use Rattle.std.proofs.Common.{◌≡◌, ℕ, ◌+◌, ◌-◌, ◌/◌, ◌%◌, List, [], ◌∷◌, ◌++◌, length, take, drop, replicate, decimal, sym, ap, ◌∙◌, arith}
use Rattle.std.proofs.lemmas.List.{take-append-drop}
use Rattle.interfaces.specs.Cells.{number_of}
use Rattle.interfaces.specs.Printing.{padding}
use Rattle.interfaces.proofs.Zeros.{padding_more, take_padding, drop_padding}
use Rattle.names.specs.Names.{row_count, row_name}
use Rattle.names.proofs.Standing.{row_decimal}
use Rattle.names.proofs.write_name.Goals as goal

-- digits that are written behind a letter, over zeros: the bytes of the name, and those behind it
filled : (x r from len : ℕ) (bs : List ℕ) → 1 + length (decimal r) ≡ len → from + length (decimal r) ≡ len → drop from bs ≡ decimal r ++ drop len (x ∷ replicate 31 0) → take from bs ≡ take from (x ∷ replicate 31 0)
    → (take len bs ≡ x ∷ decimal r) × (drop len bs ≡ replicate (32 - len) 0)
filled x r from len bs l s d t =
    let o : from ≡ 1 = omega arith in
    let e : bs ≡ padding (x ∷ decimal r) = sym (take-append-drop from bs) ∙ rw (d, t, o, ← l) (padding_more (x ∷ []) (decimal r)) in
    rw e (take_padding (x ∷ decimal r) len (omega arith), drop_padding (x ∷ decimal r) len (omega arith))

pub write_digits-requires : goal.write_digits-requires
write_digits-requires c =
    let n = c.name_len-len.ensures in
    let l = n.all in
    let b = n.few in
    (omega arith, omega arith)

pub invariant_of-result-clause-padded : goal.invariant_of-result-clause-padded
invariant_of-result-clause-padded c =
    let w = c.write_digits in
    (filled _ _ w.result c.name_len-len.result w.new.buf c.name_len-len.ensures.all w.ensures.start w.ensures.written w.ensures.before).1

pub returns : goal.returns
returns c =
    let n = number_of c.args.cell in
    let w = c.write_digits in
    let e = (filled _ _ w.result c.name_len-len.result w.new.buf c.name_len-len.ensures.all w.ensures.start w.ensures.written w.ensures.before).0 in
    let d : decimal (c.number-2.result % row_count + 1) ≡ row_name (n % row_count + 1) =
    ap (λ k. decimal (k % row_count + 1)) c.number-2.ensures.value ∙ row_decimal (n % row_count + 1) (omega arith) in
    let f : ℕ → List ℕ → List ℕ = λ k bs. (65 + k / row_count) ∷ bs in
    e ∙ (ap (f c.number.result) d ∙ ap (λ k. f k (row_name (n % row_count + 1))) c.number.ensures.value)
