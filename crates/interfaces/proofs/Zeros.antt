-- Bytes with zeros behind them, and what a write to their front leaves. Assumes nothing.
use Rattle.std.proofs.Common.{◌≡◌, ℕ, ◌+◌, ◌-◌, ◌<◌, ◌≤◌, Bool, true, false, cond, leb, List, ◌++◌, length, take, drop, replicate, Some, None, Option, sym, refl, ap, ◌∙◌, arith, length-append}
use Rattle.std.proofs.lemmas.List.{append_assoc, append-nil, take-append-drop, length-take-le, take_at, drop_at, drop-drop, drop-replicate}
use Rattle.std.proofs.lemmas.Bool.Decides.{nat_tests}
use Rattle.interfaces.specs.Printing.{padding, written_bytes, written_pieces}
use Rattle.interfaces.specs.declared.written.Written.{Written}

pub take_padding : (bs : List ℕ) (n : ℕ) → length bs ≡ n → take n (padding bs) ≡ bs
take_padding bs n e = take_at bs (replicate (32 - length bs) 0) n e

pub drop_padding : (bs : List ℕ) (n : ℕ) → length bs ≡ n → drop n (padding bs) ≡ replicate (32 - n) 0
drop_padding bs n e = drop_at bs (replicate (32 - length bs) 0) n e ∙ ap (λ k. replicate (32 - k) 0) e

-- a piece that is written behind others, over zeros
pub padding_more : (front rest : List ℕ) → take (length front) (padding front) ++ (rest ++ drop (length front + length rest) (padding front)) ≡ padding (front ++ rest)
padding_more front rest =
    let f = length front in
    let r = length rest in
    let d : drop (f + r) (padding front) ≡ replicate (32 - length (front ++ rest)) 0 =
    sym (drop-drop r f (padding front))
    ∙ (ap (drop r) (drop_padding front f refl)
    ∙ (drop-replicate r (32 - f) 0 ∙ ap (λ k. replicate k 0) (simp length-append (omega arith)))) in
    rw (take_padding front f refl, d) (sym (append_assoc front rest _))

-- the same, after the call that writes the piece
pub put_more : (front piece was then : List ℕ) (at : ℕ) → was ≡ padding front → length front ≡ at → then ≡ take at was ++ (piece ++ drop (at + length piece) was) → then ≡ padding (front ++ piece)
put_more front piece was then at w l e =
    let m = padding_more front piece in
    let s : take at was ++ (piece ++ drop (at + length piece) was) ≡ padding (front ++ piece) = rw (w, ← l) m in
    e ∙ s

pub padding_full : (bs : List ℕ) → length bs ≡ 32 → padding bs ≡ bs
padding_full bs l = rw l (append-nil bs)

-- `&bytes[0..n]`, where `n` bytes stand before the zeros
pub front_padding : (bs bytes : List ℕ) (n : ℕ) → bytes ≡ padding bs → n ≡ length bs → take (n - 0) bytes ≡ bs
front_padding bs bytes n e l =
    let k : n - 0 ≡ length bs = omega arith in
    rw (k, e) (take_padding bs (length bs) refl)

-- two pieces that fit, and two that do not
pub pieces_some : (front rest bs : List ℕ) → length front + length rest ≤ 32 → bs ≡ front ++ rest → Some bs ≡ written_pieces front rest
pieces_some front rest bs h e =
    let n : length (front ++ rest) ≤ 32 = simp length-append h in
    let l : leb (length (front ++ rest)) 32 ≡ true = grind (arith, nat_tests) in
    ap Some e ∙ sym (ap (λ b. cond b (Some (front ++ rest)) None) l)

pub pieces_none : (front rest : List ℕ) → 32 < length front + length rest → None ≡ written_pieces front rest
pieces_none front rest h =
    let n : 32 < length (front ++ rest) = simp length-append h in
    let l : leb (length (front ++ rest)) 32 ≡ false = grind (arith, nat_tests) in
    sym (ap (λ b. cond b (Some (front ++ rest)) None) l)

-- the array of a written form holds the bytes that are written, with zeros behind them
pub written_count : (w : Written) → length w.bytes ≡ 32 → w.len ≡ length (written_bytes w)
written_count w l = sym (length-take-le w.len w.bytes (omega (arith, w.fits)))

pub written_padded : (w : Written) → length w.bytes ≡ 32 → w.bytes ≡ padding (written_bytes w)
written_padded w l =
    sym (take-append-drop w.len w.bytes)
    ∙ ap (λ zs. written_bytes w ++ zs) (w.padded ∙ ap (λ k. replicate (32 - k) 0) (written_count w l))

-- what `from_pieces` answers
pub some_pieces : (front rest bs : List ℕ) → Some bs ≡ written_pieces front rest → bs ≡ front ++ rest
some_pieces front rest bs = go (leb (length (front ++ rest)) 32)
  where
    go : (b : Bool) → Some bs ≡ cond b (Some (front ++ rest)) None → bs ≡ front ++ rest
    go true e = cc
    go false e = cc

pub none_pieces : (front rest : List ℕ) → None ≡ written_pieces front rest → 32 < length front + length rest
none_pieces front rest e = go (leb (length (front ++ rest)) 32) refl e
  where
    go : (b : Bool) → leb (length (front ++ rest)) 32 ≡ b → ◌≡◌ {A = Option (List ℕ)} None (cond b (Some (front ++ rest)) None) → 32 < length front + length rest
    go true h f = absurd (let z : ◌≡◌ {A = ℕ} 0 1 = cc in omega arith)
    go false h f = let n = length-append front rest in grind (arith, nat_tests)
