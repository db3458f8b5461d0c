-- Numbers, digit by digit. Assumes nothing.
use Rattle.std.proofs.Common.{◌≡◌, ℕ, ◌+◌, ◌*◌, ◌<◌, leb, List, length, get_or, drop, MatchOption, Some, None, Err, Option as Maybe, refl, ap, ◌∙◌, ⊎_elim, arith}
use mathlib.Core.Option.{Option, none, some}
use Rattle.std.proofs.lemmas.Bool.{cases_lt, cond-false, lt-leb}
use Rattle.std.proofs.lemmas.List.{drop_more, get_or_past}
use Rattle.names.specs.Names.{OffsetAt}
use Rattle.whole.specs.Whole.{whole_limit}
use Rattle.formula.specs.Bytes.{digit_of}
use Rattle.formula.proofs.Bytes.{digit_at, digit_is}
use Rattle.sheet_parts.specs.Tokens.{one_digit, digits_from}

-- digits
pub byte_within : (text : List ℕ) (at : ℕ) → (get_or text at 0 ≡ 0 → ⊥) → at < length text
byte_within text at n = ⊎_elim (λ l. l) (λ l. absurd (n (get_or_past text at 0 l))) (cases_lt at (length text))

pub digit_within : (text : List ℕ) (at d : ℕ) → digit_of (get_or text at 0) ≡ some d → at < length text
digit_within text at d e = byte_within text at (λ z. let h = digit_is (get_or text at 0) d e in let h₁ = h.1 in omega arith)

-- a byte from `0` to `9` is a digit, and past the end of the text there is none
pub digit_by : (text : List ℕ) (at : ℕ) (r : Maybe ℕ) → OffsetAt text at 48 57 r → MatchOption r (digit_of (get_or text at 0) ≡ none) (λ d. (digit_of (get_or text at 0) ≡ some d) × (d < 10))
digit_by text at (Some d) h = let l = h.0 in (ap digit_of h.1.1 ∙ digit_at d (omega arith), omega arith)
digit_by text at None h = go (digit_of (get_or text at 0)) refl where
  go : (o : Option ℕ) → digit_of (get_or text at 0) ≡ o → digit_of (get_or text at 0) ≡ none
  go none e = e
  go (some d) e = let b = digit_is (get_or text at 0) d e in let l = b.0 in absurd (h d (omega arith) (digit_within text at d e, b.1))

module _ (text : List ℕ) (at n : ℕ) where
  pub digits_by : (d : ℕ) → digit_of (get_or text at 0) ≡ some d → digits_from at n (drop at text) ≡ one_digit at n (some d) (λ m. digits_from (at + 1) m (drop (at + 1) text))
  digits_by d e =
      ap (digits_from at n) (drop_more text at 0 (digit_within text at d e)) ∙ ap (λ o. one_digit at n o (λ m. digits_from (at + 1) m (drop (at + 1) text))) e

  pub digits_large : (d : ℕ) → digit_of (get_or text at 0) ≡ some d → whole_limit < n * 10 + d → digits_from at n (drop at text) ≡ Err at
  digits_large d e l = digits_by d e ∙ cond-false (leb (n * 10 + d) whole_limit) _ _ (lt-leb (n * 10 + d) whole_limit l)
