-- Texts: the bytes of a record, which records are sound, what a record means, and how texts are put together.
use Rattle.std.specs.Prelude.{◌≡◌, ℕ, zero, suc, ◌+◌, ◌*◌, ◌/◌, ◌%◌, ◌^◌, ◌<◌, ◌≤◌, Bool, cond, ◌&&◌, List, [], ◌∷◌, ◌++◌, length, take, drop, Some, None, Option, ◌==◌, nat_le}
use Rattle.std.specs.List.{AllByRecursion, list_all}
use Rattle.interfaces.specs.Printing.{padding}
use Rattle.text.specs.declared.Text.{Text}

-- the most bytes that a text has
abbrev pub text_longest : ℕ
text_longest = 32

-- a byte that a text may have, from the space to `~`
abbrev pub IsPrintable : ℕ → Type 0
IsPrintable b = (32 ≤ b) × (b ≤ 126)

abbrev pub printable_byte : ℕ → Bool
printable_byte b = nat_le 32 b && nat_le b 126

abbrev pub printable_bytes : List ℕ → Bool
printable_bytes bs = list_all printable_byte bs

abbrev pub is_zero : ℕ → Bool
is_zero b = b == 0

abbrev pub only_zeros : List ℕ → Bool
only_zeros bs = list_all is_zero bs

-- `n` + 1 bytes of a number, from its little end; the last takes all that is left
unfoldable pub bytes_of : ℕ → ℕ → List ℕ
bytes_of zero w = w ∷ []
bytes_of (suc n) w = w % 256 ∷ bytes_of n (w / 256)

-- the eight bytes of a word: since a word is below 2 ^ 64, what is left for the last is a byte
abbrev pub word_bytes : ℕ → List ℕ
word_bytes w = bytes_of 7 w

-- the number that bytes make, from its little end
unfoldable pub word_of : List ℕ → ℕ
word_of [] = 0
word_of (b ∷ bs) = b + 256 * word_of bs

-- the 32 bytes of a record
abbrev pub text_bytes : Text → List ℕ
text_bytes t = word_bytes t.a ++ word_bytes t.b ++ word_bytes t.c ++ word_bytes t.d

-- a sound record has at most 32 bytes that a text may have, and zeros behind them
unfoldable pub sound_text : Text → Bool
sound_text t = nat_le t.len text_longest && (printable_bytes (take t.len (text_bytes t)) && only_zeros (drop t.len (text_bytes t)))

abbrev pub text_blank : Text
text_blank = record { a = 0; b = 0; c = 0; d = 0; len = 0 }

-- a record that is not sound means the blank
abbrev pub text_canon : Text → Text
text_canon t = cond (sound_text t) t text_blank

-- the bytes that a record means, and that it is written as
abbrev pub text_means : Text → List ℕ
text_means t = cond (sound_text t) (take t.len (text_bytes t)) []

abbrev pub text_length : Text → ℕ
text_length t = length (text_means t)

abbrev pub text_empty : Text → Bool
text_empty t = text_length t == 0

abbrev pub equal_text : Text → Text → Bool
equal_text s t = s.a == t.a && (s.b == t.b && (s.c == t.c && (s.d == t.d && s.len == t.len)))

abbrev pub text_alike : Text → Text → Bool
text_alike s t = equal_text (text_canon s) (text_canon t)

-- the record that holds 32 bytes and a length
abbrev pub text_packed : List ℕ → ℕ → Text
text_packed bs n =
    record {
      a = word_of (take 8 bs);
      b = word_of (take 8 (drop 8 bs));
      c = word_of (take 8 (drop 16 bs));
      d = word_of (take 8 (drop 24 bs));
      len = n;
    }

-- the record of a text
abbrev pub text_of : List ℕ → Text
text_of bs = text_packed (padding bs) (length bs)

-- a text with bytes behind it, if they fit
abbrev pub text_extended : Text → List ℕ → Option Text
text_extended t bs = cond (nat_le (length (text_means t) + length bs) text_longest) (Some (text_of (text_means t ++ bs))) None

abbrev pub text_appended : Text → Text → Option Text
text_appended t u = text_extended t (text_means u)

abbrev pub text_pushed : Text → ℕ → Option Text
text_pushed t b = cond (printable_byte b) (text_extended t (b ∷ [])) None

-- what a text with bytes behind it means; there is one exactly if they fit
abbrev pub Extends : List ℕ → List ℕ → Option Text → Type 0
Extends bs more None = length bs + length more ≤ text_longest → ⊥
Extends bs more (Some t) = (length bs + length more ≤ text_longest) × (text_means t ≡ bs ++ more)

-- a record whose fields fit their widths, as those of every record in the program do
pub record Fitting (t : Text) : Type 0 where
  pub a : t.a < 2 ^ 64
  pub b : t.b < 2 ^ 64
  pub c : t.c < 2 ^ 64
  pub d : t.d < 2 ^ 64
  pub len : t.len < 2 ^ 8

-- bytes are the written form of some record exactly if they are at most 32, each from 32 to 126
abbrev pub TextForm : Type 0
TextForm =
    (bs : List ℕ) →
    ((t : Text) → text_means t ≡ bs → (length bs ≤ text_longest) × AllByRecursion IsPrintable bs)
    × (length bs ≤ text_longest → AllByRecursion IsPrintable bs → (t : Text) × Fitting t × (text_means t ≡ bs))
