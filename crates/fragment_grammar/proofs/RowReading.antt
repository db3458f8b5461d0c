-- The reader of rows is right for the grammar. Assumes nothing.
use Rattle.std.proofs.Common.{◌≡◌, ℕ, zero, suc, ◌+◌, ◌-◌, ◌<◌, ◌≤◌, List, [], ◌∷◌, ◌++◌, length, take, drop, sym, refl, ap, ◌∙◌, subst, arith}
use lib.Seq.{take-append-add}
use Rattle.std.proofs.lemmas.List.{append_assoc, append-nil, length-append, take-append-drop, take-take, drop_at, drop-take, length-drop, length-take, length-take-le}
use Rattle.fragment_grammar.specs.Grammar.{Item, written, Sound, Reads, done, more}
use Rattle.fragment_grammar.specs.Reader.{Read, got, stuck, item_in, Rows, row, astray, fronted, continued, rows}
use Rattle.fragment_grammar.proofs.Reading.{Took, Halted, Right}
use Rattle.fragment_grammar.proofs.ItemReading.{Word, item_right, word_full}

-- bytes that are still of the item before are passed over
rows_skip : (at n : ℕ) (xs : List ℕ) → n ≤ length xs → rows at n xs ≡ rows (at + n) 0 (drop n xs)
rows_skip at zero [] l = refl
rows_skip at (suc n) [] l = absurd (omega arith)
rows_skip at zero (b ∷ bs) l = let e : at ≡ at + 0 = omega arith in ap (λ a. rows a 0 (b ∷ bs)) e
rows_skip at (suc n) (b ∷ bs) l =
    let e : at + 1 + n ≡ at + suc n = omega arith in
    rows_skip (at + 1) n bs (omega arith) ∙ ap (λ a. rows a 0 (drop n bs)) e

-- one item on
pub rows_got : (at : ℕ) (xs : List ℕ) (i : Item) (w : ℕ) → item_in xs ≡ got i w → 0 < w → w ≤ length xs → rows at 0 xs ≡ fronted i (rows (at + w) 0 (drop w xs))
rows_got at [] i w e p l = absurd (omega arith)
rows_got at (b ∷ bs) i w e p l =
    let s = rows_skip (at + 1) (w - 1) bs (omega arith) in
    let a : at + 1 + (w - 1) ≡ at + w = omega arith in
    let d : suc (w - 1) ≡ w = omega arith in
    let f = ap (λ n. drop n (b ∷ bs)) d in
    ap (λ r. continued at r (λ n. rows (at + 1) n bs)) e ∙ ap (fronted i) (s ∙ ap (λ k. rows k 0 (drop (w - 1) bs)) a ∙ ap (rows (at + w) 0) f)

pub rows_stuck : (at : ℕ) (xs : List ℕ) (p : ℕ) → item_in xs ≡ stuck p → 0 < length xs → rows at 0 xs ≡ astray (at + p)
rows_stuck at [] p e l = absurd (omega arith)
rows_stuck at (b ∷ bs) p e l = ap (λ r. continued at r (λ n. rows (at + 1) n bs)) e

-- the text from the place `at` on goes astray at `place`
pub record Strayed (at : ℕ) (xs : List ℕ) (place : ℕ) : Type 0 where
  pub ran : ℕ
  pub size : place ≡ at + ran
  pub fits : ran ≤ length xs
  pub rest : List ℕ
  pub items : List Item
  pub viable : Reads (take ran xs ++ rest) items
  pub dead : (ys : List ℕ) (others : List Item) → Reads ys others → take (suc ran) xs ≡ take (suc ran) ys → ⊥

abbrev pub RowRight : ℕ → List ℕ → Rows → Type 0
RowRight at xs (row items) = Reads xs items
RowRight at xs (astray place) = Strayed at xs place

never : {x : ℕ} {xs : List ℕ} → ◌≡◌ {A = List ℕ} (x ∷ xs) [] → ⊥
never e = let z : ◌≡◌ {A = ℕ} 0 1 = cc in omega arith

module _ (at : ℕ) (xs : List ℕ) (i : Item) (w : ℕ) (k : Took Word xs i w) where
  width : length (written i) ≡ w
  width = let e = ap length k.reads.1 in let l = length-take-le w xs k.fits in omega arith

  splits : xs ≡ written i ++ drop w xs
  splits = let t = take-append-drop w xs in let e = k.reads.1 in cc

  dead_deeper : (ran : ℕ) → ((ys : List ℕ) (others : List Item) → Reads ys others → take (suc ran) (drop w xs) ≡ take (suc ran) ys → ⊥)
      → (ys : List ℕ) (others : List Item) → Reads ys others → take (suc (w + ran)) xs ≡ take (suc (w + ran)) ys → ⊥
  dead_deeper ran h ys others done e =
      let a = ap length e in let b = length-take (suc (w + ran)) xs in let c = width in let f = word_full i in let g = k.fits in omega arith
  dead_deeper ran h ys others (more {item = j} {rest = z} {items = js} s r) e =
      let q : suc (w + ran) ≡ w + suc ran = omega arith in
      let a = take-take w (w + suc ran) xs (omega arith) in
      let b = take-take w (w + suc ran) (written j ++ z) (omega arith) in
      let o = k.only (written j) j z (s, refl) (cc) in
      let o0 = ap length o.0 in
      let l = length-take-le w xs k.fits in
      let c = drop-take w (suc ran) xs in
      let d = drop-take w (suc ran) (written j ++ z) in
      let f = drop_at (written j) z w (omega arith) in
      h z js r (cc)

  fronted_right : (r : Rows) → RowRight (at + w) (drop w xs) r → RowRight at xs (fronted i r)
  fronted_right (row items) h = subst (λ t. Reads t (i ∷ items)) (sym splits) (more k.reads.0 h)
  fronted_right (astray place) h =
      let wd = width in
      let t : take (w + h.ran) xs ≡ written i ++ take h.ran (drop w xs) = (let q = take-append-add (written i) (drop w xs) h.ran in let s = splits in cc) in
      let g = append_assoc (written i) (take h.ran (drop w xs)) h.rest in
      let v : take (w + h.ran) xs ++ h.rest ≡ written i ++ (take h.ran (drop w xs) ++ h.rest) = cc in
      record {
        ran = w + h.ran;
        size = let s = h.size in omega arith;
        fits = let f = h.fits in let l = length-drop w xs in let m = k.fits in omega arith;
        rest = h.rest;
        items = i ∷ h.items;
        viable = subst (λ u. Reads u (i ∷ h.items)) (sym v) (more k.reads.0 h.viable);
        dead = dead_deeper h.ran h.dead;
      }

stuck_right : (at b : ℕ) (bs : List ℕ) (p : ℕ) → Halted Word (b ∷ bs) p → Strayed at (b ∷ bs) (at + p)
stuck_right at b bs p k = record {
  ran = p;
  size = refl;
  fits = k.fits;
  rest = k.rest;
  items = k.what ∷ [];
  viable = subst (λ u. Reads u (k.what ∷ [])) (append-nil (written k.what) ∙ sym k.viable.1) (more k.viable.0 done);
  dead = gone;
}
  where
    gone : (ys : List ℕ) (others : List Item) → Reads ys others → take (suc p) (b ∷ bs) ≡ take (suc p) ys → ⊥
    gone ys others done e = never e
    gone ys others (more {item = j} {rest = z} s r) e = k.dead (written j) j z (s, refl) e

-- by the length of the text
pub rows_right : (n at : ℕ) (xs : List ℕ) → length xs ≤ n → RowRight at xs (rows at 0 xs)
rows_right zero at [] l = done
rows_right zero at (b ∷ bs) l = absurd (omega arith)
rows_right (suc n) at [] l = done
rows_right (suc n) at (b ∷ bs) l = by (λ k m. rows_right n k (drop m (b ∷ bs))) (item_in (b ∷ bs)) refl (item_right (b ∷ bs))
  where
    by : ((k m : ℕ) → length (drop m (b ∷ bs)) ≤ n → RowRight k (drop m (b ∷ bs)) (rows k 0 (drop m (b ∷ bs))))
        → (r : Read Item) → item_in (b ∷ bs) ≡ r → Right Word (b ∷ bs) r → RowRight at (b ∷ bs) (rows at 0 (b ∷ bs))
    by ih (got i w) e k =
        let c = width at (b ∷ bs) i w k in
        let f = word_full i in
        let d = length-drop w (b ∷ bs) in
        let h = ih (at + w) w (omega arith) in
        subst (RowRight at (b ∷ bs)) (sym (rows_got at (b ∷ bs) i w e (omega arith) k.fits)) (fronted_right at (b ∷ bs) i w k (rows (at + w) 0 (drop w (b ∷ bs))) h)
    by ih (stuck p) e k = subst (RowRight at (b ∷ bs)) (sym (rows_stuck at (b ∷ bs) p e (omega arith))) (stuck_right at b bs p k)

-- the item that a text begins with is read
pub item_read : (i : Item) (rest : List ℕ) → Sound i → item_in (written i ++ rest) ≡ got i (length (written i))
item_read i rest s = by (item_in (written i ++ rest)) refl (item_right (written i ++ rest))
  where
    by : (r : Read Item) → item_in (written i ++ rest) ≡ r → Right Word (written i ++ rest) r → item_in (written i ++ rest) ≡ got i (length (written i))
    by (got j w) e k =
        let o = k.only (written i) i rest (s, refl) refl in
        let l = ap length o.0 in
        let m = length-take-le w (written i ++ rest) k.fits in
        let q : w ≡ length (written i) = omega arith in
        let p = o.1 in cc
    by (stuck p) e k = absurd (k.dead (written i) i rest (s, refl) refl)

-- a row that the grammar has is read
pub reads_rows : (at : ℕ) {xs : List ℕ} {items : List Item} → Reads xs items → rows at 0 xs ≡ row items
reads_rows at done = refl
reads_rows at (more {item = i} {rest = rest} {items = items} s r) =
    let e = item_read i rest s in
    let l = length-append (written i) rest in
    let d = drop_at (written i) rest (length (written i)) refl in
    rows_got at (written i ++ rest) i (length (written i)) e (word_full i) (omega arith)
    ∙ ap (fronted i) (ap (rows (at + length (written i)) 0) d ∙ reads_rows (at + length (written i)) r)
