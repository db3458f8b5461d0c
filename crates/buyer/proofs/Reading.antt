-- How far a text stands rightly: where the search for the first wrong byte ends, and what is known of the bytes then.
use Rattle.std.proofs.Common.{◌≡◌, ℕ, zero, suc, ◌+◌, ◌<◌, ◌≤◌, Bool, true, false, cond, not, eqb, ltb, nat_lt, List, [], ◌∷◌, length, get_or, position, Option, Some, None, refl, ap, ◌∙◌, arith, ltb-true, eqb-true}
use Rattle.std.specs.List.{enumerate_from, position_or_len}
use Rattle.std.specs.Option.{unwrap_or}
use borrow.Author.Tests.{both_ways}
use Rattle.std.proofs.lemmas.Grind.{common_steps}
use Rattle.std.proofs.lemmas.List.FromFn.{length-enumerate_from}
use Rattle.std.proofs.lemmas.Bool.{cond-true, cond-false}
use Rattle.buyer.specs.Fallback.{is_hex_lem, may_stand_lem, right_from}

-- whether the byte at a place may not stand there
abbrev pub wrong : ℕ × ℕ → Bool
wrong q = not (may_stand_lem q.0 q.1)

first_wrong : (place : ℕ) (text : List ℕ) → position_or_len wrong (enumerate_from place text) ≡ right_from place text
first_wrong place [] = refl
first_wrong place (b ∷ bs) = go (may_stand_lem place b) (first_wrong (place + 1) bs)
  where
    go : (t : Bool) → position_or_len wrong (enumerate_from (place + 1) bs) ≡ right_from (place + 1) bs
        → cond (not (not t)) (1 + position_or_len wrong (enumerate_from (place + 1) bs)) 0 ≡ cond t (suc (right_from (suc place) bs)) 0
    go true e = let s : place + 1 ≡ suc place = omega arith in let f = e ∙ ap (λ n. right_from n bs) s in omega arith
    go false e = refl

-- only at the places of a definition may a byte stand
stands_within : (place b : ℕ) → may_stand_lem place b ≡ true → place < 5
stands_within place b h = go (eqb place 2) (ltb place 5) refl refl
  where
    go : (s t : Bool) → eqb place 2 ≡ s → ltb place 5 ≡ t → place < 5
    go true t e f = let g = eqb-true place 2 e in omega arith
    go false true e f = ltb-true place 5 f
    go false false e f =
        absurd (both_ways _ (cond-false (eqb place 2) (eqb b 124) (cond (ltb place 5) (is_hex_lem b) false) e ∙ cond-false (ltb place 5) (is_hex_lem b) false f) h)

-- no more bytes stand rightly than a definition has
pub right_few : (place : ℕ) (text : List ℕ) → place ≤ 5 → place + right_from place text ≤ 5
right_few place [] l = omega arith
right_few place (b ∷ bs) l = go (may_stand_lem place b) refl (right_few (suc place) bs)
  where
    go : (t : Bool) → may_stand_lem place b ≡ t → (suc place ≤ 5 → suc place + right_from (suc place) bs ≤ 5) → place + right_from place (b ∷ bs) ≤ 5
    go true e more =
        let w = stands_within place b e in
        let h = more (omega arith) in
        let f = cond-true (may_stand_lem place b) (suc (right_from (suc place) bs)) 0 e in
        omega arith
    go false e more = let f = cond-false (may_stand_lem place b) (suc (right_from (suc place) bs)) 0 e in omega arith

pub right_length : (place : ℕ) (text : List ℕ) → right_from place text ≤ length text
right_length place [] = omega arith
right_length place (b ∷ bs) = go (may_stand_lem place b) refl (right_length (suc place) bs)
  where
    go : (t : Bool) → may_stand_lem place b ≡ t → right_from (suc place) bs ≤ length bs → right_from place (b ∷ bs) ≤ length (b ∷ bs)
    go true e h = let f = cond-true (may_stand_lem place b) (suc (right_from (suc place) bs)) 0 e in omega arith
    go false e h = let f = cond-false (may_stand_lem place b) (suc (right_from (suc place) bs)) 0 e in omega arith

-- the bytes before stand rightly
pub right_stands : (place : ℕ) (text : List ℕ) (k at : ℕ) → at ≡ place + k → k < right_from place text → may_stand_lem at (get_or text k 0) ≡ true
right_stands place [] k at a l = absurd (omega arith)
right_stands place (b ∷ bs) k at a l = go (may_stand_lem place b) refl k a l (λ j. right_stands (suc place) bs j at)
  where
    go : (t : Bool) → may_stand_lem place b ≡ t → (k : ℕ) → at ≡ place + k → k < right_from place (b ∷ bs)
        → ((j : ℕ) → at ≡ suc place + j → j < right_from (suc place) bs → may_stand_lem at (get_or bs j 0) ≡ true) → may_stand_lem at (get_or (b ∷ bs) k 0) ≡ true
    go true e zero a l more = let s : at ≡ place = omega arith in ap (λ (n : ℕ). may_stand_lem n b) s ∙ e
    go true e (suc k) a l more = let f = cond-true (may_stand_lem place b) (suc (right_from (suc place) bs)) 0 e in more k (omega arith) (omega arith)
    go false e k a l more = let f = cond-false (may_stand_lem place b) (suc (right_from (suc place) bs)) 0 e in absurd (omega arith)

-- and the one behind them does not
pub right_fails : (place : ℕ) (text : List ℕ) (k at : ℕ) → at ≡ place + k → k ≡ right_from place text → k < length text → may_stand_lem at (get_or text k 0) ≡ false
right_fails place [] k at a r l = absurd (omega arith)
right_fails place (b ∷ bs) k at a r l = go (may_stand_lem place b) refl k a r l (λ j. right_fails (suc place) bs j at)
  where
    go : (t : Bool) → may_stand_lem place b ≡ t → (k : ℕ) → at ≡ place + k → k ≡ right_from place (b ∷ bs) → k < length (b ∷ bs)
        → ((j : ℕ) → at ≡ suc place + j → j ≡ right_from (suc place) bs → j < length bs → may_stand_lem at (get_or bs j 0) ≡ false) → may_stand_lem at (get_or (b ∷ bs) k 0) ≡ false
    go true e zero a r l more = let f = cond-true (may_stand_lem place b) (suc (right_from (suc place) bs)) 0 e in absurd (omega arith)
    go true e (suc k) a r l more = let f = cond-true (may_stand_lem place b) (suc (right_from (suc place) bs)) 0 e in more k (omega arith) (omega arith) (omega arith)
    go false e zero a r l more = let s : at ≡ place = omega arith in ap (λ (n : ℕ). may_stand_lem n b) s ∙ e
    go false e (suc k) a r l more = let f = cond-false (may_stand_lem place b) (suc (right_from (suc place) bs)) 0 e in absurd (omega arith)

-- the place of the first byte that may not stand, or the end, is how many stand rightly
pub right_found : (text : List ℕ) (found : Option ℕ) → found ≡ position wrong (enumerate_from 0 text) → unwrap_or found (length text) ≡ right_from 0 text
right_found text found e = ap (λ f. unwrap_or f (length text)) e ∙ go (nat_lt (position_or_len wrong (enumerate_from 0 text)) (length (enumerate_from 0 text))) refl
  where
    first : position_or_len wrong (enumerate_from 0 text) ≡ right_from 0 text
    first = first_wrong 0 text

    go : (t : Bool) → nat_lt (position_or_len wrong (enumerate_from 0 text)) (length (enumerate_from 0 text)) ≡ t
        → unwrap_or (cond t (Some (position_or_len wrong (enumerate_from 0 text))) None) (length text) ≡ right_from 0 text
    go true h = first
    go false h =
        let n = length-enumerate_from {X = ℕ} 0 text in
        let l = right_length 0 text in
        let m : length (enumerate_from 0 text) ≤ position_or_len wrong (enumerate_from 0 text) = grind (arith, common_steps) in
        let ends : length text ≡ right_from 0 text = omega (arith, first) in
        ends
