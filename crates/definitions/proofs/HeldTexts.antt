-- Texts in memory: bytes before a zero, and what a write and a wipe leave. Assumes nothing.
use Rattle.std.proofs.Common.{◌≡◌, ℕ, zero, suc, min, Some, None, ◌+◌, ◌-◌, ◌*◌, ◌<◌, ◌≤◌, Bool, true, false, cond, not, ◌&&◌, ◌||◌, eqb, ltb, leb, ◌⊎◌, List, [], ◌∷◌, ◌++◌, length, get_or, take, drop, replicate, sym, refl, ap, ◌∙◌, inl, inr, ⊎_elim, arith}
use lib.Seq.{paste}
use Rattle.std.proofs.lemmas.List.{append_assoc, drop_all, drop-drop, drop_at, drop-take, take_all, take-take, take-append-le, length-append, length-replicate, length-take-le, length-take, get_or-take, get_or-drop, get_or_past, get_or-replicate, get_or_append_left, get_or-append_right, ext_get_or, length-drop}
use Rattle.std.specs.List.{position, position_or_len, list_any}
use borrow.Rule.Slice.PartMut.{put_mid}
use Rattle.std.proofs.lemmas.Slice.{put_mid-paste}
use Rattle.std.proofs.lemmas.List.Edits.{take-paste, drop-paste, paste-paste}
use Rattle.std.proofs.lemmas.Bool.{cases_lt, cases_order, cases_Bool, cond-true, cond-false, cond_both, eq-eqb, ne_eqb, true≢false, ltb-true, ltb-false, leb-true, and_parts, and_from, not-true}
use Rattle.interfaces.specs.Cells.{text_limit, but}
use Rattle.definitions.specs.Memory.{up_to_zero, start_of, bytes_at, text_at, zero_in, can_keep, has_room_lem, can_put, padded, after_put}

-- the bytes before the first zero byte, by its place
before_place : (xs : List ℕ) → up_to_zero xs ≡ take (position_or_len (λ b. eqb b 0) xs) xs
before_place [] = refl
before_place (x ∷ xs) =
    let n = position_or_len (λ b. eqb b 0) xs in
    let o : 1 + n ≡ suc n = omega arith in
    ⊎_elim
    (λ t. cond-true (eqb x 0) [] (x ∷ up_to_zero xs) t ∙ sym (ap (λ q. take (cond (not q) (1 + n) 0) (x ∷ xs)) t))
    (λ f. cond-false (eqb x 0) [] (x ∷ up_to_zero xs) f ∙ ap (λ ys. x ∷ ys) (before_place xs) ∙ sym (ap (λ q. take (cond (not q) (1 + n) 0) (x ∷ xs)) f ∙ ap (λ m. take m (x ∷ xs)) o))
    (cases_Bool (eqb x 0))

pub before_found : (xs : List ℕ) (n : ℕ) → position (λ b. eqb b 0) xs ≡ Some n → take n xs ≡ up_to_zero xs
before_found xs n e =
    let m = position_or_len (λ b. eqb b 0) xs in
    let p = before_place xs in
    ⊎_elim
    (λ t. let c : cond (ltb m (length xs)) (Some m) None ≡ Some m = cond-true _ _ _ t in let u : m ≡ n = cc in ap (λ i. take i xs) (sym u) ∙ sym p)
    (λ f. let c : cond (ltb m (length xs)) (Some m) None ≡ None = cond-false _ _ _ f in absurd (cc))
    (cases_Bool (ltb m (length xs)))

pub before_none : (xs : List ℕ) → position (λ b. eqb b 0) xs ≡ None → xs ≡ up_to_zero xs
before_none xs e =
    let m = position_or_len (λ b. eqb b 0) xs in
    let p = before_place xs in
    ⊎_elim
    (λ t. let c : cond (ltb m (length xs)) (Some m) None ≡ Some m = cond-true _ _ _ t in absurd (cc))
    (λ f. sym (p ∙ take_all m xs (ltb-false _ _ f)))
    (cases_Bool (ltb m (length xs)))

-- whether some byte is zero, as the library tells it
or_is_cond : (b r : Bool) → (b || r) ≡ cond b true r
or_is_cond true r = refl
or_is_cond false r = refl

pub any_zero : (xs : List ℕ) → list_any (λ b. eqb b 0) xs ≡ zero_in xs
any_zero [] = refl
any_zero (x ∷ xs) = or_is_cond (eqb x 0) (list_any (λ b. eqb b 0) xs) ∙ ap (cond (eqb x 0) true) (any_zero xs)

-- a text without zero byte comes before the zeros behind it
before_zeros : (n : ℕ) → up_to_zero (replicate n 0) ≡ []
before_zeros zero = refl
before_zeros (suc n) = refl

pub before_padding : (xs : List ℕ) (n : ℕ) → zero_in xs ≡ false → up_to_zero (xs ++ replicate n 0) ≡ xs
before_padding [] n h = before_zeros n
before_padding (x ∷ xs) n h = ⊎_elim
    (λ t. absurd (true≢false (sym (cond-true _ _ _ t) ∙ h)))
    (λ f. cond-false _ _ _ f ∙ ap (λ ys. x ∷ ys) (before_padding xs n (sym (cond-false _ _ _ f) ∙ h)))
    (cases_Bool (eqb x 0))

pub padded_length : (xs : List ℕ) → length xs ≤ text_limit → length (padded xs) ≡ text_limit
padded_length xs l =
    let a = length-append xs (replicate (text_limit - length xs) 0) in
    let z : ℕ = 0 in
    let r = length-replicate (text_limit - length xs) z in omega arith

-- what a write of a text and of zeros behind it leaves
pub padding_written : (memory first zeros text : List ℕ) (s p k m q n c : ℕ) → n ≡ c → s ≡ n * text_limit → s + text_limit ≤ length memory → length text ≤ text_limit
    → p ≡ s + length text → k ≡ length text → m ≡ text_limit - length text → q ≡ m → first ≡ text → zeros ≡ replicate q 0
    → put_mid p m (put_mid s k memory first) zeros ≡ paste memory (start_of c) (padded text) text_limit
padding_written memory first zeros text s p k m q n c e f l u v a b w g h =
    let i = put_mid-paste s k memory first text (length text) g (sym a) refl in
    let z : ℕ = 0 in
    let r = length-replicate m z in
    let o = put_mid-paste p m (put_mid s k memory first) zeros (replicate m 0) m (h ∙ ap (λ x. replicate x 0) w) refl (sym r) in
    let j = paste-paste memory s text (replicate m 0) (length text) m refl (sym r) (omega arith) in
    let x : s ≡ start_of c = omega arith in
    let y : length text + m ≡ text_limit = omega arith in
    o ∙ ap (λ xs. paste xs p (replicate m 0) m) i ∙ ap (λ x. paste (paste memory s text (length text)) x (replicate m 0) m) v ∙ j
    ∙ ap (λ x. paste memory s (text ++ replicate x 0) (length text + m)) b ∙ ap (λ x. paste memory x (padded text) (length text + m)) x ∙ ap (λ x. paste memory (start_of c) (padded text) x) y

-- what stands for each cell after the bytes of the cell `c` were written
module _ (memory s : List ℕ) (c : ℕ) (room : (c + 1) * text_limit ≤ length memory) (size : length s ≡ text_limit) where
  bytes_same : bytes_at (paste memory (start_of c) s text_limit) c ≡ s
  bytes_same =
      let d = drop-take (start_of c) text_limit (paste memory (start_of c) s text_limit) in
      let t = take-paste memory (start_of c) s text_limit (omega arith) (omega arith) in
      let a = take_all text_limit s (omega arith) in
      let e = drop_at (take (start_of c) memory) s (start_of c) (length-take-le (start_of c) memory (omega arith)) in
      cc

  bytes_before : (k : ℕ) → k < c → bytes_at (paste memory (start_of c) s text_limit) k ≡ bytes_at memory k
  bytes_before k l =
      let d = drop-take (start_of k) text_limit (paste memory (start_of c) s text_limit) in
      let m = length-take-le (start_of c) memory (omega arith) in
      let p = append_assoc (take (start_of c) memory) (take text_limit s) (drop (start_of c + text_limit) memory) in
      let t = take-append-le (start_of k + text_limit) (take (start_of c) memory) (take text_limit s ++ drop (start_of c + text_limit) memory) (omega arith) in
      let u = take-take (start_of k + text_limit) (start_of c) memory (omega arith) in
      let e = drop-take (start_of k) text_limit memory in
      cc

  bytes_after : (k : ℕ) → c < k → bytes_at (paste memory (start_of c) s text_limit) k ≡ bytes_at memory k
  bytes_after k l =
      let d = drop-paste memory (start_of c) s text_limit (omega arith) (omega arith) in
      let n : start_of c + text_limit + (start_of k - (start_of c + text_limit)) ≡ start_of k = omega arith in
      let e = drop-drop (start_of k - (start_of c + text_limit)) (start_of c + text_limit) (paste memory (start_of c) s text_limit) in
      let f = drop-drop (start_of k - (start_of c + text_limit)) (start_of c + text_limit) memory in
      cc

  pub text_written : (k : ℕ) → text_at (paste memory (start_of c) s text_limit) k ≡ but c (up_to_zero s) (text_at memory) k
  text_written k = ⊎_elim
      (λ e. let q : text_at (paste memory (start_of c) s text_limit) k ≡ up_to_zero s = rw e (ap up_to_zero bytes_same) in q ∙ sym (cond-true _ _ _ (eq-eqb k c e)))
      (λ o. let ne : k ≡ c → ⊥ = λ e. ⊎_elim (λ a. omega arith) (λ b. omega arith) o in
      ap up_to_zero (⊎_elim (bytes_before k) (bytes_after k) o) ∙ sym (cond-false _ _ _ (ne_eqb k c ne)))
      (cases_order k c)

-- bytes that begin with a zero are no text
starts_zero : (xs : List ℕ) → get_or xs 0 0 ≡ 0 → up_to_zero xs ≡ []
starts_zero [] e = refl
starts_zero (x ∷ xs) e = cond-true _ _ _ (eq-eqb _ _ e)

-- the bytes of a cell, as far as memory has them
pub bytes_spanned : (memory : List ℕ) (k s e : ℕ) → s ≡ min (start_of k) (length memory) → e ≡ min (start_of (k + 1)) (length memory) → take (e - s) (drop s memory) ≡ bytes_at memory k
bytes_spanned memory k s e p q = ⊎_elim
    (λ l. let u : s ≡ start_of k = omega arith in let d = length-drop (start_of k) memory in
    rw u (⊎_elim
    (λ a. let v : e - start_of k ≡ text_limit = omega arith in rw v refl)
    (λ a. take_all (e - start_of k) (drop (start_of k) memory) (omega arith) ∙ sym (take_all text_limit (drop (start_of k) memory) (omega arith)))
    (cases_lt (start_of (k + 1)) (length memory))))
    (λ l. let a = drop_all s memory (omega arith) in let b = drop_all (start_of k) memory l in
    let n : ℕ = 0 in
    take_all (e - s) (drop s memory) (let d = length-drop s memory in omega arith) ∙ a ∙ sym (take_all text_limit (drop (start_of k) memory) (let d = length-drop (start_of k) memory in omega arith) ∙ b))
    (cases_lt (start_of k) (length memory))

-- a byte of a cell
byte_at : (memory : List ℕ) (k i : ℕ) → i < text_limit → get_or (bytes_at memory k) i 0 ≡ get_or memory (start_of k + i) 0
byte_at memory k i l = get_or-take text_limit (drop (start_of k) memory) i 0 l ∙ get_or-drop (start_of k) memory i 0

first_byte : (memory : List ℕ) (k : ℕ) → get_or (bytes_at memory k) 0 0 ≡ get_or memory (start_of k) 0
first_byte memory k = let e : start_of k + 0 ≡ start_of k = omega arith in byte_at memory k 0 (omega arith) ∙ ap (λ j. get_or memory j 0) e

-- a text that memory can hold, taken apart
pub held_parts : (text : List ℕ) → can_keep text ≡ true → (0 < length text) × (length text ≤ text_limit) × (zero_in text ≡ false)
held_parts text h =
    let p = and_parts (ltb 0 (length text)) (leb (length text) text_limit && not (zero_in text)) h in
    let q = and_parts (leb (length text) text_limit) (not (zero_in text)) p.1 in
    (ltb-true 0 (length text) p.0, leb-true (length text) text_limit q.0, not-true (zero_in text) q.1)

-- after a put
pub text_put : (memory after text : List ℕ) (c : ℕ) → has_room_lem memory c ≡ true → can_keep text ≡ true
    → after ≡ paste memory (start_of c) (padded text) text_limit → (k : ℕ) → text_at after k ≡ after_put memory c text k
text_put memory after text c r h w k =
    let p = held_parts text h in
    let t = text_written memory (padded text) c (leb-true _ _ r) (padded_length text p.1) k in
    let b = before_padding text (text_limit - length text) p.2 in
    ap (λ m. text_at m k) w ∙ t ∙ ap (λ x. but c x (text_at memory) k) b ∙ sym (cond-true (can_put memory c text) (but c text (text_at memory) k) (text_at memory k) (and_from _ _ r h))

-- after zeros were written from the place `s` to the place `i`
pub record Cleared (memory now : List ℕ) (s i : ℕ) : Type 0 where
  pub zeros : (j : ℕ) → s ≤ j → j < i → get_or now j 0 ≡ 0
  pub others : (j : ℕ) → (j < s) ⊎ (i ≤ j) → get_or now j 0 ≡ get_or memory j 0
  pub long : length now ≡ length memory

-- a byte of memory after a write over a part of it: before the part, in it, and behind it
module _ (memory part : List ℕ) (s n : ℕ) (within : s + n ≤ length memory) (size : length part ≡ n) (j : ℕ) where
  part_before : j < s → get_or (put_mid s n memory part) j 0 ≡ get_or memory j 0
  part_before l =
      let t = length-take-le s memory (omega arith) in
      get_or_append_left (take s memory) (part ++ drop n (drop s memory)) 0 j (omega arith) ∙ get_or-take s memory j 0 l

  part_in : s ≤ j → j < s + n → get_or (put_mid s n memory part) j 0 ≡ get_or part (j - s) 0
  part_in l u =
      let t = length-take-le s memory (omega arith) in
      get_or-append_right (take s memory) (part ++ drop n (drop s memory)) s j 0 t l ∙ get_or_append_left part (drop n (drop s memory)) 0 (j - s) (omega arith)

  part_behind : s + n ≤ j → get_or (put_mid s n memory part) j 0 ≡ get_or memory j 0
  part_behind l =
      let t = length-take-le s memory (omega arith) in
      let e : s + (n + (j - s - n)) ≡ j = omega arith in
      get_or-append_right (take s memory) (part ++ drop n (drop s memory)) s j 0 t (omega arith)
      ∙ get_or-append_right part (drop n (drop s memory)) n (j - s) 0 size (omega arith)
      ∙ get_or-drop n (drop s memory) (j - s - n) 0 ∙ get_or-drop s memory (n + (j - s - n)) 0 ∙ ap (λ i. get_or memory i 0) e

-- zeros over the bytes of a cell, as far as memory has them
pub cleared_part : (memory zeros : List ℕ) (k s e q : ℕ) → s ≡ min (start_of k) (length memory) → e ≡ min (start_of (k + 1)) (length memory) → q ≡ e - s → zeros ≡ replicate q 0
    → Cleared memory (put_mid s (e - s) memory zeros) (start_of k) (start_of (k + 1))
cleared_part memory zeros k s e q a b w h =
    let z : ℕ = 0 in
    let r = length-replicate q z in
    let c = ap length h in
    let size : length zeros ≡ e - s = omega arith in
    let fits : s + (e - s) ≤ length memory = omega arith in
    let t = length-take-le s memory (omega arith) in
    let long : length (put_mid s (e - s) memory zeros) ≡ length memory =
    let x = length-append (take s memory) (zeros ++ drop (e - s) (drop s memory)) in
    let y = length-append zeros (drop (e - s) (drop s memory)) in
    let v = length-drop (e - s) (drop s memory) in
    let u = length-drop s memory in omega arith in
    record {
      zeros = λ j l u. ⊎_elim
          (λ i. part_in memory zeros s (e - s) fits size j (omega arith) (omega arith) ∙ ap (λ xs. get_or xs (j - s) 0) h ∙ get_or-replicate q (j - s) 0 0 (omega arith))
          (λ o. get_or_past (put_mid s (e - s) memory zeros) j 0 (omega arith))
          (cases_lt j e);
      others = λ j o. ⊎_elim
          (λ i. part_before memory zeros s (e - s) fits size j i)
          (λ i. part_behind memory zeros s (e - s) fits size j (⊎_elim (λ l. omega arith) (λ u. omega arith) o))
          (cases_lt j s);
      long = long;
    }

-- after a removal
pub text_removed : (memory after : List ℕ) (c n i : ℕ) → n ≡ c → i ≡ n * text_limit + text_limit → Cleared memory after (n * text_limit) i
    → (k : ℕ) → text_at after k ≡ but c [] (text_at memory) k
text_removed memory after c n i p q h k = ⊎_elim
    (λ e. rw e (starts_zero (bytes_at after c) (first_byte after c ∙ h.zeros (start_of c) (omega arith) (omega arith)) ∙ sym (cond-true (eqb c c) [] (text_at memory c) (eq-eqb c c refl))))
    (λ w. let ne : k ≡ c → ⊥ = λ e. ⊎_elim (λ a. omega arith) (λ b. omega arith) w in
    ap up_to_zero (same_bytes w) ∙ sym (cond-false (eqb k c) [] (text_at memory k) (ne_eqb k c ne)))
    (cases_order k c)
  where
    outside : (k < c) ⊎ (c < k) → (j : ℕ) → j < text_limit → (start_of k + j < n * text_limit) ⊎ (i ≤ start_of k + j)
    outside (inl a) j l = inl (omega arith)
    outside (inr b) j l = inr (omega arith)

    same_bytes : (k < c) ⊎ (c < k) → bytes_at after k ≡ bytes_at memory k
    same_bytes w = ext_get_or 0 (bytes_at after k) (bytes_at memory k)
        (let a = length-take text_limit (drop (start_of k) after) in let b = length-take text_limit (drop (start_of k) memory) in
        let d = length-drop (start_of k) after in let e = length-drop (start_of k) memory in let f = h.long in omega arith)
        (λ j l. let a = length-take text_limit (drop (start_of k) after) in
        let u : j < text_limit = omega arith in
        byte_at after k j u ∙ h.others (start_of k + j) (outside w j u) ∙ sym (byte_at memory k j u))

-- after a wipe
pub text_wiped : (memory : List ℕ) (n : ℕ) → memory ≡ replicate n 0 → (k : ℕ) → text_at memory k ≡ []
text_wiped memory n h k = starts_zero (bytes_at memory k) (first_byte memory k ∙ ap (λ xs. get_or xs (start_of k) 0) h ∙ zeros (start_of k))
  where
    zeros : (j : ℕ) → get_or (replicate {A = ℕ} n 0) j 0 ≡ 0
    zeros j = ⊎_elim (λ l. get_or-replicate n j 0 0 l) (λ u. get_or_past (replicate n 0) j 0 (let z : ℕ = 0 in let r = length-replicate n z in omega arith)) (cases_lt j n)

-- no text is longer than its room
before_short : (xs : List ℕ) → length (up_to_zero xs) ≤ length xs
before_short [] = omega arith
before_short (x ∷ xs) = cond_both (eqb x 0) [] (x ∷ up_to_zero xs) (λ t. length t ≤ length (x ∷ xs)) (λ e. omega arith) (λ e. let h = before_short xs in omega arith)

pub text_short : (memory : List ℕ) (k : ℕ) → length (text_at memory k) ≤ text_limit
text_short memory k =
    let b = before_short (bytes_at memory k) in
    let t = length-take text_limit (drop (start_of k) memory) in omega arith
