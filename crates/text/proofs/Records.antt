-- The record that is packed from given bytes, and which bytes are the written form of a text. Assumes nothing of a record.
use Rattle.std.specs.Prelude.{◌≡◌, ℕ, zero, suc, ◌+◌, ◌-◌, ◌^◌, ◌<◌, ◌≤◌, Bool, true, false, cond, ◌&&◌, List, [], ◌++◌, length, take, drop, replicate, Some, None, Decides, nat_le, refl}
use Rattle.std.proofs.Common.{sym, ◌∙◌, arith, length-append, length-drop}
use Rattle.std.proofs.Math.Path.{ap}
use Rattle.std.specs.List.{AllByRecursion, list_all}
use Rattle.std.proofs.ByRecursion.{All-append, All-take, All-drop, All-weaker, Decides-by_and}
use Rattle.std.proofs.lemmas.List.{append_assoc, take-append-drop, drop-drop, take_all, length-take-le, length-replicate}
use Rattle.std.proofs.lemmas.List.Folds.{list_all-append}
use Rattle.std.proofs.lemmas.Bool.Decides.{nat_tests, Decides-and, Decides-ltb}
use Rattle.interfaces.specs.Printing.{padding}
use Rattle.text.specs.Text.{IsPrintable, printable_byte, printable_bytes, only_zeros, word_bytes, word_of, text_bytes, text_means, text_packed, text_of, text_extended, Extends, Fitting, TextForm}
use Rattle.text.specs.declared.Text.{Text}
use Rattle.text.specs.Every.{all_zeros}
use Rattle.text.specs.Words.{bytes_of_word_of, word_of_lt}
use Rattle.interfaces.proofs.Zeros.{take_padding, drop_padding}
use Rattle.text.specs.Packing.{form, sound_from}

-- eight of 32 bytes, from a place on
module _ (bs : List ℕ) (l : length bs ≡ 32) (h : AllByRecursion (λ b. b < 256) bs) (i : ℕ) (le : i + 8 ≤ 32) where
  eight : length (take 8 (drop i bs)) ≡ 8
  eight = length-take-le 8 (drop i bs) (simp length-drop (omega arith))

  all_small : AllByRecursion (λ b. b < 256) (take 8 (drop i bs))
  all_small = All-take (λ b. b < 256) 8 (drop i bs) (All-drop (λ b. b < 256) i bs h)

  word_at : word_bytes (word_of (take 8 (drop i bs))) ≡ take 8 (drop i bs)
  word_at = bytes_of_word_of 7 (take 8 (drop i bs)) eight all_small

  word_fits : word_of (take 8 (drop i bs)) < 2 ^ 64
  word_fits = word_of_lt (take 8 (drop i bs)) eight all_small

-- bytes are those of the record that is packed from them
pieces : (bs : List ℕ) → length bs ≡ 32 → take 8 bs ++ take 8 (drop 8 bs) ++ take 8 (drop 16 bs) ++ take 8 (drop 24 bs) ≡ bs
pieces bs l =
    let a = take-append-drop 8 bs in
    let b = take-append-drop 8 (drop 8 bs) in
    let c = take-append-drop 8 (drop 16 bs) in
    let d = take_all 8 (drop 24 bs) (simp length-drop (omega arith)) in
    let e = drop-drop 8 8 bs in
    let f = drop-drop 8 16 bs in
    let g : take 8 bs ++ (take 8 (drop 8 bs) ++ (take 8 (drop 16 bs) ++ take 8 (drop 24 bs))) ≡ bs = cc in
    simp append_assoc g

pub bytes_packed : (bs : List ℕ) (n : ℕ) → length bs ≡ 32 → AllByRecursion (λ b. b < 256) bs → text_bytes (text_packed bs n) ≡ bs
bytes_packed bs n l h =
    rw (word_at bs l h 0 (omega arith), word_at bs l h 8 (omega arith), word_at bs l h 16 (omega arith), word_at bs l h 24 (omega arith))
    (pieces bs l)

packed_fits : (bs : List ℕ) (n : ℕ) → length bs ≡ 32 → AllByRecursion (λ b. b < 256) bs → n < 2 ^ 8 → Fitting (text_packed bs n)
packed_fits bs n l h small =
    record {
      a = word_fits bs l h 0 (omega arith);
      b = word_fits bs l h 8 (omega arith);
      c = word_fits bs l h 16 (omega arith);
      d = word_fits bs l h 24 (omega arith);
      len = small;
    }

-- the tests of bytes, and what they tell
printable_tells : (b : ℕ) → Decides (printable_byte b) (IsPrintable b)
printable_tells b = Decides-and (nat_le 32 b) (nat_le b 126) (Decides-ltb 31 b) (grind (arith, nat_tests))

pub all_tells : (bs : List ℕ) → Decides (printable_bytes bs) (AllByRecursion IsPrintable bs)
all_tells bs = Decides-by_and printable_byte IsPrintable (list_all printable_byte) printable_tells refl (λ _ _. refl) bs

small_padding : (bs : List ℕ) → AllByRecursion IsPrintable bs → AllByRecursion (λ b. b < 256) (padding bs)
small_padding bs h =
    All-append (λ b. b < 256) bs (replicate (32 - length bs) 0)
    (All-weaker IsPrintable (λ b. b < 256) (λ b p. omega arith) bs h)
    (zeros (32 - length bs))
  where
    zeros : (n : ℕ) → AllByRecursion (λ b. b < 256) (replicate n 0)
    zeros zero = tt
    zeros (suc n) = (omega arith, zeros n)

length_padding : (bs : List ℕ) → length bs ≤ 32 → length (padding bs) ≡ 32
length_padding bs h = simp (length-append, length-replicate) (omega arith)

-- the record of a text means that text
pub means_of : (bs : List ℕ) → length bs ≤ 32 → printable_bytes bs ≡ true → text_means (text_of bs) ≡ bs
means_of bs l h =
    let e : text_bytes (text_of bs) ≡ padding bs =
    bytes_packed (padding bs) (length bs) (length_padding bs l) (small_padding bs ((all_tells bs).0 h)) in
    let p : take (length bs) (text_bytes (text_of bs)) ≡ bs = ap (take (length bs)) e ∙ take_padding bs (length bs) refl in
    let z : drop (length bs) (text_bytes (text_of bs)) ≡ replicate (32 - length bs) 0 =
    ap (drop (length bs)) e ∙ drop_padding bs (length bs) refl in
    let s = sound_from (text_of bs) l (ap printable_bytes p ∙ h) (ap only_zeros z ∙ all_zeros (32 - length bs)) in
    ap (λ b. cond b (take (length bs) (text_bytes (text_of bs))) []) s ∙ p

pub text_form_lem : TextForm
text_form_lem bs = (
  λ t e. let f = form t in (rw e at f.short, (all_tells bs).0 (ap printable_bytes (sym e) ∙ f.printable)),
  λ l h. (text_of bs, packed_fits (padding bs) (length bs) (length_padding bs l) (small_padding bs h) (omega arith), means_of bs l ((all_tells bs).1 h)),
)

-- what a text with bytes behind it means
pub extends : (t : Text) (bs : List ℕ) → printable_bytes bs ≡ true → Extends (text_means t) bs (text_extended t bs)
extends t bs h = go (nat_le (length (text_means t) + length bs) 32) refl
  where
    go : (b : Bool) → nat_le (length (text_means t) + length bs) 32 ≡ b → Extends (text_means t) bs (cond b (Some (text_of (text_means t ++ bs))) None)
    go true e =
        let n : length (text_means t) + length bs ≤ 32 = grind (arith, nat_tests) in (
          n,
          means_of (text_means t ++ bs) (simp length-append (omega arith))
              (list_all-append printable_byte (text_means t) bs ∙ (ap (λ b. b && printable_bytes bs) (form t).printable ∙ h)),
        )
    go false e = λ n. grind (arith, nat_tests)
