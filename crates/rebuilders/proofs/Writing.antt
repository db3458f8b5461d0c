-- Writing a block of lent memory: the answers at its front, and the result at its end. Assumes nothing.
use Rattle.std.proofs.Common.{◌≡◌, ℕ, ◌+◌, ◌-◌, ◌<◌, ◌≤◌, List, length, get_or, take, drop, set, sym, ap, ◌∙◌, inl, inr, length-append, length-drop, arith}
use Rattle.std.proofs.lemmas.List.{length-take, take-take, take-set-le, drop-take, drop-set-add, drop-set-lt, get_or-take, get_or-set_same}
use Rattle.std.proofs.lemmas.Slice.{take-put_mid_below, drop-put_mid, between-put_mid}
use borrow.Rule.Slice.PartMut.{put_mid}
use Rattle.interfaces.specs.Cells.{ask_limit}
use Rattle.rows.specs.Blocks.{block_length, block, Apart, Wrote}

module _ {V : Type 0} where
  -- a write at `base + i` is outside every block that is apart
  untouched : (base i b : ℕ) (values : List V) (v : V) → i < block_length → Apart b base → block b (set values (base + i) v) ≡ block b values
  untouched base i b values v l (inl h) =
      let e : b + (base + i - b) ≡ base + i = omega arith in
      ap (λ n. block b (set values n v)) (sym e) ∙ ap (take block_length) (drop-set-add b values (base + i - b) v) ∙ take-set-le block_length (drop b values) (base + i - b) v (omega arith)
  untouched base i b values v l (inr h) = ap (take block_length) (drop-set-lt b values (base + i) v (omega arith))

  module _ (base k : ℕ) (old answers : List V) (n : length answers ≡ k) (few : k ≤ ask_limit) (within : base + ask_limit < length old) where
    same_length : length (put_mid base k old answers) ≡ length old
    same_length = simp (length-append, length-take, length-drop) (omega arith)

    front : take k (drop base (put_mid base k old answers)) ≡ answers
    front =
        let e : base + k - base ≡ k = omega arith in
        ap (λ i. take i (drop base (put_mid base k old answers))) (sym e) ∙ between-put_mid base k old answers (base + k) (omega arith) (omega arith)

    elsewhere : (b : ℕ) → Apart b base → block b (put_mid base k old answers) ≡ block b old
    elsewhere b (inl h) =
        sym (drop-take b block_length (put_mid base k old answers))
        ∙ ap (drop b) (take-put_mid_below base k old answers (b + block_length) (omega arith) (omega arith))
        ∙ drop-take b block_length old
    elsewhere b (inr h) = ap (take block_length) (drop-put_mid base k old answers b (omega arith) (omega arith) n)

    pub wrote : (blank result : V) → Wrote blank base answers result old (set (put_mid base k old answers) (base + ask_limit) result)
    wrote blank result =
        let mid = put_mid base k old answers in
        let t = drop-set-add base mid ask_limit result in
        let s = same_length in
        record {
          front =
              ap (λ x. take (length answers) (take block_length x)) t
              ∙ take-take (length answers) block_length (set (drop base mid) ask_limit result) (omega arith)
              ∙ take-set-le (length answers) (drop base mid) ask_limit result (omega arith)
              ∙ ap (λ i. take i (drop base mid)) n
              ∙ front;
          last =
              ap (λ x. get_or (take block_length x) ask_limit blank) t
              ∙ get_or-take block_length (set (drop base mid) ask_limit result) ask_limit blank (omega arith)
              ∙ get_or-set_same (drop base mid) ask_limit result blank (simp length-drop (omega arith));
          others = λ b a. untouched base ask_limit b mid result (omega arith) a ∙ elsewhere b a;
        }
