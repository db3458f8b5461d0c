-- The readers of the code read what the readers of the grammar read. Assumes nothing.
use Rattle.std.proofs.Common.{◌≡◌, ℕ, suc, ◌+◌, ◌<◌, ◌≤◌, Bool, true, false, cond, eqb, leb, ltb, ◌&&◌, List, [], length, get_or, take, drop, Ok, Err, Result, MatchResult, sym, refl, ap, ◌∙◌, subst, ⊎_elim, arith}
use Rattle.std.proofs.lemmas.List.{drop-drop, drop_all, get_or_past, get_or-drop, take_at, length-append, length-drop, length-take-le}
use Rattle.std.proofs.lemmas.Bool.{cases_lt, cond-true, cond-false}
use Rattle.std.proofs.lemmas.Bool.Decides.{nat_tests}
use Rattle.interfaces.specs.Cells.{number_of}
use Rattle.interfaces.specs.declared.cell.Cell.{Cell}
use Rattle.names.specs.Names.{byte_stands, name_of, NameAt, NoNameAt, LeftAt}
use Rattle.fragment_grammar.specs.Grammar.{Item, plain, insert, written, opening, closing, question, Sound}
use Rattle.fragment_grammar.specs.Reader.{Read, got, stuck, further, and_then, head, nothing, led, is_column, is_first, is_second, name_in, named, filled_in, tested_in, is_plain, item_in, Rows, row, astray, fronted, rows}
use Rattle.fragment_grammar.proofs.Reading.{Right}
use Rattle.fragment_grammar.proofs.NameReading.{NameRight, name_right, same_name}
use Rattle.fragment_grammar.proofs.ItemReading.{Word, item_right, word_full}
use Rattle.fragment_grammar.proofs.RowReading.{rows_got, rows_stuck}
use Rattle.fragment.specs.Readings.{read_means, placed, row_answer}

-- a call that went well did not fail
pub ok_err : {A B : Type 0} (a : A) (b : B) → ◌≡◌ {A = Result A B} (Ok a) (Err b) → ⊥
ok_err a b e = let z : ◌≡◌ {A = ℕ} 0 1 = cc in omega arith

pub ok_pair : {A : Type 0} {B : Type 0} (a c : A) (m n : ℕ) → ◌≡◌ {A = Result (A × ℕ) B} (Ok (a, m)) (Ok (c, n)) → (a ≡ c) × (m ≡ n)
ok_pair {A} a c m n e = let p : ◌≡◌ {A = A × ℕ} (a, m) (c, n) = cc in (ap (λ x. x.0) p, ap (λ x. x.1) p)

-- places add up
pub placed_further : {A : Type 0} (at w : ℕ) (r : Read A) → placed at (further w r) ≡ placed (at + w) r
placed_further at w (got a v) = let e : at + (w + v) ≡ at + w + v = omega arith in ap (λ n. Ok (a, n)) e
placed_further at w (stuck p) = let e : at + (w + p) ≡ at + w + p = omega arith in ap Err e

-- a byte other than 0 stands at a place if it is what is read there; past the end 0 is read
pub stands_yes : (text : List ℕ) (at b : ℕ) → true ≡ byte_stands text at b → true ≡ eqb (get_or text at 0) b
stands_yes text at b e = grind (arith, nat_tests)

pub stands_no : (text : List ℕ) (at b : ℕ) → 0 < b → false ≡ byte_stands text at b → false ≡ eqb (get_or text at 0) b
stands_no text at b z e = ⊎_elim (λ l. grind (arith, nat_tests)) (λ l. let g = get_or_past text at 0 l in grind (arith, nat_tests)) (cases_lt at (length text))

-- a byte and what comes behind it
module _ {A : Type 0} (text : List ℕ) (at b : ℕ) (go : List ℕ → Read A) where
  head_drop : head (drop at text) ≡ get_or text at 0
  head_drop = let z : at + 0 ≡ at = omega arith in get_or-drop at text 0 0 ∙ ap (λ n. get_or text n 0) z

  pub led_yes : true ≡ eqb (get_or text at 0) b → placed at (led b go (drop at text)) ≡ placed (at + 1) (go (drop (at + 1) text))
  led_yes e =
      ap (placed at) (cond-true (eqb (head (drop at text)) b) (further 1 (go (drop 1 (drop at text)))) (stuck 0) (ap (λ h. eqb h b) head_drop ∙ sym e))
      ∙ placed_further at 1 (go (drop 1 (drop at text)))
      ∙ ap (λ xs. placed (at + 1) (go xs)) (drop-drop 1 at text)

  pub led_no : false ≡ eqb (get_or text at 0) b → placed at (led b go (drop at text)) ≡ Err at
  led_no e =
      let z : at + 0 ≡ at = omega arith in
      ap (placed at) (cond-false (eqb (head (drop at text)) b) (further 1 (go (drop 1 (drop at text)))) (stuck 0) (ap (λ h. eqb h b) head_drop ∙ sym e))
      ∙ ap Err z

-- a name and what comes behind it
module _ {A : Type 0} (text : List ℕ) (at n next : ℕ) (go : ℕ → List ℕ → Read A) where
  named_at : (r : Read ℕ) → Ok (n, next) ≡ placed at r → placed at (and_then r go (drop at text)) ≡ placed next (go n (drop next text))
  named_at (got m w) e =
      let p = ok_pair n m next (at + w) e in
      let q = p.0 in
      let u = p.1 in
      let d = drop-drop w at text in
      let f = placed_further at w (go m (drop w (drop at text))) in
      cc
  named_at (stuck p) e = absurd (ok_err (n, next) (at + p) e)

  pub named_ok : Ok (n, next) ≡ placed at (name_in (drop at text)) → placed at (named go (drop at text)) ≡ placed next (go n (drop next text))
  named_ok e = named_at (name_in (drop at text)) e

-- what stands behind the first cell of braces
module _ (text : List ℕ) (at c : ℕ) where
  tested_split : (b : Bool) → eqb (get_or text at 0) closing ≡ b → tested_in c (drop at text) ≡ cond b (led closing (nothing (insert c)) (drop at text)) (led question (filled_in c) (drop at text))
  tested_split b e =
      ap (λ t. cond t (led closing (nothing (insert c)) (drop at text)) (led question (filled_in c) (drop at text)))
      (ap (λ h. eqb h closing) (head_drop text at closing (nothing c)) ∙ e)

  pub tested_choice : false ≡ eqb (get_or text at 0) closing → true ≡ eqb (get_or text at 0) question → placed at (tested_in c (drop at text)) ≡ placed (at + 1) (filled_in c (drop (at + 1) text))
  tested_choice e f = ap (placed at) (tested_split false (sym e)) ∙ led_yes text at question (filled_in c) f

-- an item
module _ (text : List ℕ) (at : ℕ) where
  item_split : (b : Bool) → b ≡ is_plain (get_or text at 0) → item_in (drop at text) ≡ cond b (got (plain (get_or text at 0)) 1) (led opening (named tested_in) (drop at text))
  item_split b e =
      ap (λ h. cond (is_plain h) (got (plain h) 1) (led opening (named tested_in) (drop at text))) (head_drop text at opening (nothing at))
      ∙ ap (λ t. cond t (got (plain (get_or text at 0)) 1) (led opening (named tested_in) (drop at text))) (sym e)

  pub item_braces : false ≡ is_plain (get_or text at 0) → true ≡ eqb (get_or text at 0) opening → placed at (item_in (drop at text)) ≡ placed (at + 1) (named tested_in (drop (at + 1) text))
  item_braces e f = ap (placed at) (item_split false e) ∙ led_yes text at opening (named tested_in) f

  pub item_none : false ≡ is_plain (get_or text at 0) → false ≡ eqb (get_or text at 0) opening → placed at (item_in (drop at text)) ≡ Err at
  item_none e f = ap (placed at) (item_split false e) ∙ led_no text at opening (named tested_in) f

-- the longest name that stands at a place is the one that is read there
module _ (text : List ℕ) (at n next : ℕ) (a : NameAt text at n next) where
  read_name : (r : Read ℕ) → NameRight (drop at text) r → Ok (n, next) ≡ placed at r
  read_name (got m w) f =
      let i = f.at in
      let p = i.longest n (drop next text) a.within a.reads in
      let q = a.longest m (drop w (drop at text)) i.within i.reads in
      let t = take_at (name_of n) (drop next text) (length (name_of n)) refl in
      let u = take_at (name_of m) (drop w (drop at text)) (length (name_of m)) refl in
      let l : length (name_of n) ≡ length (name_of m) = omega arith in
      let ar = a.reads in let ir = i.reads in
      let s : name_of n ≡ name_of m = cc in
      let e = same_name n m a.within i.within s in
      let an = a.next_is in let iw = i.next_is in
      let v : next ≡ at + w = omega arith in
      cc
  read_name (stuck p) k = absurd (k.dead n (drop next text) a.within (ap (take (suc p)) a.reads))

  pub name_read : Ok (n, next) ≡ placed at (name_in (drop at text))
  name_read = read_name (name_in (drop at text)) (name_right (drop at text))

-- where no name stands, the place depends on the column letter alone
stuck_place : (b c d : Bool) (x y p : ℕ) → cond b (cond c (cond d (got x 3) (got y 2)) (stuck 1)) (stuck 0) ≡ stuck p → p ≡ cond b 1 0
stuck_place true true true x y p e = absurd (let z : ◌≡◌ {A = ℕ} 0 1 = cc in omega arith)
stuck_place true true false x y p e = absurd (let z : ◌≡◌ {A = ℕ} 0 1 = cc in omega arith)
stuck_place true false d x y p e = cc
stuck_place false c d x y p e = cc

module _ (text : List ℕ) (at : ℕ) (a : NoNameAt text at) where
  no_name_at : (r : Read ℕ) → name_in (drop at text) ≡ r → NameRight (drop at text) r → Err (at + cond (is_column (get_or text at 0)) 1 0) ≡ placed at r
  no_name_at (got m w) e f = absurd (a m (drop w (drop at text)) f.at.within f.at.reads)
  no_name_at (stuck p) e k =
      let q = stuck_place (is_column (get_or (drop at text) 0 0)) (is_first (get_or (drop at text) 1 0)) (is_second (get_or (drop at text) 1 0) (get_or (drop at text) 2 0)) _ _ p e in
      let h = head_drop text at opening (nothing at) in
      let u : p ≡ cond (is_column (get_or text at 0)) 1 0 = q ∙ ap (λ x. cond (is_column x) 1 0) h in
      ap (λ x. Err (at + x)) (sym u)

  pub no_name_read : Err (at + cond (is_column (get_or text at 0)) 1 0) ≡ placed at (name_in (drop at text))
  no_name_read = no_name_at (name_in (drop at text)) refl (name_right (drop at text))

-- a text leaves every name where the reader says
left_column : (p q : Bool) (at : ℕ) → cond p (cond q (at + 1) at) at ≡ at + cond (p && q) 1 0
left_column true true at = refl
left_column true false at = omega arith
left_column false q at = omega arith

-- what the reader of a name answers
pub cell_read : (text : List ℕ) (at : ℕ) (r : Result (Cell × ℕ) ℕ) → MatchResult r (λ p. NameAt text at (number_of p.0) p.1) (λ e. LeftAt text at e)
    → read_means number_of r ≡ placed at (name_in (drop at text))
cell_read text at (Ok p) a = name_read text at _ _ a
cell_read text at (Err e) a = ap Err (a.1 ∙ left_column (leb 65 (get_or text at 0)) (ltb (get_or text at 0) 81) at) ∙ no_name_read text at a.0

-- and the place behind it is in the text, or at its end
pub cell_within : (text : List ℕ) (at : ℕ) → at ≤ length text → (r : Result (Cell × ℕ) ℕ) → MatchResult r (λ p. NameAt text at (number_of p.0) p.1) (λ e. LeftAt text at e)
    → MatchResult r (λ p. p.1 ≤ length text) (λ _. ⊥ → ⊥)
cell_within text at l (Ok p) a =
    let n = name_of (number_of p.0) in
    let w : length (drop at text) ≡ length n + length (drop p.1 text) = ap length a.reads ∙ length-append n (drop p.1 text) in
    let d = length-drop at text in
    let x = a.next_is in
    omega arith
cell_within text at l (Err e) a = λ z. z

-- the item that was read at a place: it goes on from there
pub record Next (text : List ℕ) (at : ℕ) (i : Item) (next : ℕ) : Type 0 where
  pub further_on : at < next
  pub within : next ≤ length text
  pub sound : Sound i
  pub width : next ≡ at + length (written i)
  pub row_on : rows at 0 (drop at text) ≡ fronted i (rows next 0 (drop next text))

module _ (text : List ℕ) (at : ℕ) (l : at < length text) where
  next_at : (i : Item) (next : ℕ) (r : Read Item) → item_in (drop at text) ≡ r → Right Word (drop at text) r → Ok (i, next) ≡ placed at r → Next text at i next
  next_at i next (got j w) q k e =
      let p = ok_pair i j next (at + w) e in
      let ij = sym p.0 in
      let u = p.1 in
      let d = length-drop at text in
      let t = length-take-le w (drop at text) k.fits in
      let s = ap length k.reads.1 in
      let f = word_full j in
      let kf = k.fits in
      let lw = ap (λ x. length (written x)) ij in
      record {
        further_on = omega arith;
        within = omega arith;
        sound = subst Sound ij k.reads.0;
        width = omega arith;
        row_on =
            let g = rows_got at (drop at text) j w q (omega arith) k.fits in
            let dd = drop-drop w at text in cc;
      }
  next_at i next (stuck p) q k e = absurd (ok_err (i, next) (at + p) e)

  pub item_next : (i : Item) (next : ℕ) → Ok (i, next) ≡ placed at (item_in (drop at text)) → Next text at i next
  item_next i next e = next_at i next (item_in (drop at text)) refl (item_right (drop at text)) e

  item_stray : (p : ℕ) (r : Read Item) → item_in (drop at text) ≡ r → Err p ≡ placed at r → rows at 0 (drop at text) ≡ astray p
  item_stray p (got j w) q e = absurd (ok_err (j, at + w) p (sym e))
  item_stray p (stuck s) q e =
      let u : at + s ≡ p = cc in
      let d = length-drop at text in
      rows_stuck at (drop at text) s q (omega arith) ∙ ap astray u

  pub item_astray : (p : ℕ) → Err p ≡ placed at (item_in (drop at text)) → rows at 0 (drop at text) ≡ astray p
  item_astray p e = item_stray p (item_in (drop at text)) refl e

-- rows
pub row_end : (text : List ℕ) (at : ℕ) → length text ≤ at → rows at 0 (drop at text) ≡ row []
row_end text at l = ap (rows at 0) (drop_all at text l)

pub row_fronted : (i : Item) (r : Rows) → row_answer r ≡ row_answer (fronted i r)
row_fronted i (row items) = refl
row_fronted i (astray p) = refl

-- the answer of a reading says whether the text is a row
pub answer_row : (r : Rows) (u : Unit {0}) → Ok u ≡ row_answer r → (items : List Item) × (r ≡ row items)
answer_row (row items) u e = (items, refl)
answer_row (astray p) u e = absurd (ok_err u p e)

pub answer_astray : (r : Rows) (p : ℕ) → Err p ≡ row_answer r → r ≡ astray p
answer_astray (row items) p e = absurd (ok_err tt p (sym e))
answer_astray (astray q) p e = let u : q ≡ p = cc in ap astray u
