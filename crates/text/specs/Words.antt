-- Words and their bytes. Assumes nothing.
use Rattle.std.specs.Prelude.{◌≡◌, ℕ, zero, suc, ◌+◌, ◌*◌, ◌/◌, ◌%◌, ◌^◌, ◌<◌, List, [], ◌∷◌, length, drop, slice_index, refl}
use Rattle.std.proofs.Common.{ap, arith}
use Rattle.std.proofs.Math.Nat.{div-div-eq-div-mul}
use Rattle.std.specs.List.{AllByRecursion}
use Rattle.std.proofs.ByRecursion.{All-get_or}
use Rattle.std.proofs.lemmas.List.{drop_all}
use Rattle.text.specs.Text.{bytes_of, word_bytes, word_of}

pub length_bytes_of : (n w : ℕ) → length (bytes_of n w) ≡ suc n
unfolding bytes_of
length_bytes_of zero w = refl
length_bytes_of (suc n) w = ap suc (length_bytes_of n (w / 256))

-- a number is what its bytes make
pub word_of_bytes_of : (n w : ℕ) → word_of (bytes_of n w) ≡ w
unfolding bytes_of word_of
word_of_bytes_of zero w = omega arith
word_of_bytes_of (suc n) w = let e = word_of_bytes_of n (w / 256) in omega arith

-- bytes are those of the number that they make
pub bytes_of_word_of : (n : ℕ) (bs : List ℕ) → length bs ≡ suc n → AllByRecursion (λ b. b < 256) bs → bytes_of n (word_of bs) ≡ bs
unfolding bytes_of word_of
bytes_of_word_of n [] l h = grind arith
bytes_of_word_of zero (b ∷ []) l h = let e : b + 256 * 0 ≡ b = omega arith in ap (λ (k : ℕ). k ∷ []) e
bytes_of_word_of zero (b ∷ c ∷ bs) l h = grind arith
bytes_of_word_of (suc n) (b ∷ bs) l h =
    let lt : b < 256 = h.0 in
    let q : (b + 256 * word_of bs) / 256 ≡ word_of bs = omega arith in
    let r : (b + 256 * word_of bs) % 256 ≡ b = omega arith in
    let e = bytes_of_word_of n bs (omega arith) h.1 in
    rw (q, r, e)

word_of_at : (bs : List ℕ) (i : ℕ) → word_of (drop i bs) ≡ slice_index bs i + 256 * word_of (drop (suc i) bs)
unfolding word_of
word_of_at [] zero = refl
word_of_at [] (suc i) = refl
word_of_at (b ∷ bs) zero = refl
word_of_at (b ∷ bs) (suc i) = word_of_at bs i

nothing : (bs : List ℕ) → length bs ≡ 8 → word_of (drop 8 bs) ≡ 0
unfolding word_of
nothing bs l = ap word_of (drop_all 8 bs (omega arith))

-- what `from_le_bytes` answers
pub word_of_eight : (bs : List ℕ) → length bs ≡ 8 → slice_index bs 0 + slice_index bs 1 * 256 + slice_index bs 2 * 65536 + slice_index bs 3 * 16777216 + slice_index bs 4 * 4294967296 + slice_index bs 5 * 1099511627776 + slice_index bs 6 * 281474976710656 + slice_index bs 7 * 72057594037927936 ≡ word_of bs
word_of_eight bs l =
    omega (arith, nothing bs l, word_of_at bs 0, word_of_at bs 1, word_of_at bs 2, word_of_at bs 3, word_of_at bs 4, word_of_at bs 5, word_of_at bs 6, word_of_at bs 7)

-- what `to_le_bytes` answers
pub word_bytes_eight : (w : ℕ) → w < 2 ^ 64 → (w % 256) ∷ (w / 256 % 256) ∷ (w / 65536 % 256) ∷ (w / 16777216 % 256) ∷ (w / 4294967296 % 256) ∷ (w / 1099511627776 % 256) ∷ (w / 281474976710656 % 256) ∷ (w / 72057594037927936 % 256) ∷ [] ≡ word_bytes w
unfolding bytes_of
word_bytes_eight w small =
    let e : w / 72057594037927936 % 256 ≡ w / 72057594037927936 = omega arith in
    rw e (simp div-div-eq-div-mul)

-- eight bytes make a word
pub word_of_lt : (bs : List ℕ) → length bs ≡ 8 → AllByRecursion (λ b. b < 256) bs → word_of bs < 2 ^ 64
word_of_lt bs l h =
    let at : (i : ℕ) → i < 8 → slice_index bs i < 256 = λ i k. All-get_or (λ b. b < 256) bs i 0 (omega arith) h in
    omega (arith, word_of_eight bs l, at 0 (omega arith), at 1 (omega arith), at 2 (omega arith), at 3 (omega arith), at 4 (omega arith), at 5 (omega arith), at 6 (omega arith), at 7 (omega arith))
