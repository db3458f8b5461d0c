-- The names of cells as a reader finds them, and words that begin with a name. Assumes nothing.
use Rattle.std.proofs.Common.{◌≡◌, ℕ, suc, ◌+◌, ◌-◌, ◌*◌, ◌<◌, ◌≤◌, true, false, ◌&&◌, ltb, leb, List, [], ◌∷◌, ◌++◌, length, get_or, take, drop, sym, refl, ap, subst, ⊎_elim, zero-le, arith, rules}
use lib.Seq.{take-append-add}
use Rattle.std.proofs.lemmas.List.{append_assoc, append-nil, take-append-drop, take_at, take-take, drop_at, drop-take, length-append, length-drop, length-take, get_or-append-add, get_or_past}
use Rattle.std.proofs.lemmas.Bool.{cond_both, and_parts, and_from, leb-true, ltb-true, le-leb, lt-ltb, cases_order, cases_lt, both_ways}
use Rattle.interfaces.specs.Cells.{cell_count}
use Rattle.names.specs.Names.{ByteAt, column_count, row_count, name_of, NameAt}
use Rattle.names.proofs.Standing.{Stands, stands, short_name, short_at, long_at, name_length}
use Rattle.fragment_grammar.specs.Reader.{Read, got, stuck, further, and_then, head, is_column, is_first, is_second, name_in, named}
use Rattle.fragment_grammar.proofs.Reading.{Halted, Right, agree}

-- the bytes of a name with something behind it
standing : (m : ℕ) (ys : List ℕ) → m < cell_count → Stands (name_of m ++ ys) 0 m
standing m ys l = stands (name_of m ++ ys) 0 m ys l refl

pub name_shortest : (m : ℕ) → m < cell_count → 2 ≤ length (name_of m)
name_shortest m l = let s = (standing m [] l).digit.3.0 in let e = ap length (append-nil (name_of m)) in omega arith

-- cells with one name are one cell
pub same_name : (m n : ℕ) → m < cell_count → n < cell_count → name_of m ≡ name_of n → m ≡ n
same_name m n lm ln e = search rules

-- a name was found: it stands at the front, and its bytes behind the first are digits
pub record Found (xs : List ℕ) (n w : ℕ) : Type 0 where
  pub at : NameAt xs 0 n w
  pub digits : (j : ℕ) → 0 < j → j < w → get_or xs j 0 ≤ 57

-- no name was found: `p` bytes begin a name, and no name agrees for one byte more
pub record Missed (xs : List ℕ) (p : ℕ) : Type 0 where
  pub fits : p ≤ length xs
  pub cell : ℕ
  pub within : cell < cell_count
  pub rest : List ℕ
  pub viable : take p xs ++ rest ≡ name_of cell
  pub dead : (m : ℕ) (ys : List ℕ) → m < cell_count → take (suc p) xs ≡ take (suc p) (name_of m ++ ys) → ⊥

abbrev pub NameRight : List ℕ → Read ℕ → Type 0
NameRight xs (got n w) = Found xs n w
NameRight xs (stuck p) = Missed xs p

-- a byte that is not 0 stands within the text
here : (xs : List ℕ) (j b : ℕ) → 0 < b → get_or xs j 0 ≡ b → ByteAt xs j b
here xs j b l e = ⊎_elim (λ u. (u, e)) (λ o. absurd (let z = get_or_past xs j 0 o in omega arith)) (cases_lt j (length xs))

column_parts : (b : ℕ) → is_column b ≡ true → (65 ≤ b) × (b < 65 + column_count)
column_parts b h = let p = and_parts (leb 65 b) (ltb b (65 + column_count)) h in (leb-true 65 b p.0, ltb-true b (65 + column_count) p.1)

first_parts : (b : ℕ) → is_first b ≡ true → (49 ≤ b) × (b ≤ 57)
first_parts b h = let p = and_parts (leb 49 b) (leb b 57) h in (leb-true 49 b p.0, leb-true b 57 p.1)

second_parts : (b d : ℕ) → is_second b d ≡ true → (48 ≤ d) × (d ≤ 57) × ((b - 48) * 10 + (d - 48) ≤ row_count)
second_parts b d h =
    let p = and_parts (leb 48 d) (leb d 57 && leb ((b - 48) * 10 + (d - 48)) row_count) h in
    let q = and_parts (leb d 57) (leb ((b - 48) * 10 + (d - 48)) row_count) p.1 in
    (leb-true 48 d p.0, leb-true d 57 q.0, leb-true ((b - 48) * 10 + (d - 48)) row_count q.1)

is_column_lem : (b : ℕ) → 65 ≤ b → b < 65 + column_count → is_column b ≡ true
is_column_lem b l u = and_from (leb 65 b) (ltb b (65 + column_count)) (le-leb 65 b l) (lt-ltb b (65 + column_count) u)

is_first_lem : (b : ℕ) → 49 ≤ b → b ≤ 57 → is_first b ≡ true
is_first_lem b l u = and_from (leb 49 b) (leb b 57) (le-leb 49 b l) (le-leb b 57 u)

is_second_lem : (b d : ℕ) → 48 ≤ d → d ≤ 57 → (b - 48) * 10 + (d - 48) ≤ row_count → is_second b d ≡ true
is_second_lem b d l u r =
    and_from (leb 48 d) (leb d 57 && leb ((b - 48) * 10 + (d - 48)) row_count) (le-leb 48 d l)
    (and_from (leb d 57) (leb ((b - 48) * 10 + (d - 48)) row_count) (le-leb d 57 u) (le-leb ((b - 48) * 10 + (d - 48)) row_count r))

no_column : (xs : List ℕ) → is_column (get_or xs 0 0) ≡ false → Missed xs 0
no_column xs f = record {
  fits = zero-le;
  cell = 0;
  within = omega arith;
  rest = name_of 0;
  viable = refl;
  dead = λ m ys l e.
      let s = (standing m ys l).column.1 in
      let a = agree xs (name_of m ++ ys) 1 0 (omega arith) e in
      both_ways _ f (is_column_lem (get_or xs 0 0) (omega arith) (omega arith));
}

no_digit : (xs : List ℕ) → is_column (get_or xs 0 0) ≡ true → is_first (get_or xs 1 0) ≡ false → Missed xs 1
no_digit xs t f = record {
  fits = let h = (here xs 0 (get_or xs 0 0) (omega (arith, (column_parts (get_or xs 0 0) t).0)) refl).0 in omega arith;
  cell = (get_or xs 0 0 - 65) * row_count + (1 - 1);
  within = omega (arith, (column_parts (get_or xs 0 0) t).1);
  rest = 49 ∷ [];
  viable = one xs (column_parts (get_or xs 0 0) t).0;
  dead = λ m ys l e.
      let s = (standing m ys l).digit in
      let s1 = s.1 in let s2 = s.2 in let s3 = s.3.1 in
      let a = agree xs (name_of m ++ ys) 2 1 (omega arith) e in
      both_ways _ f (is_first_lem (get_or xs 1 0) (omega arith) (omega arith));
}
  where
    one : (xs : List ℕ) → 65 ≤ get_or xs 0 0 → take 1 xs ++ 49 ∷ [] ≡ name_of ((get_or xs 0 0 - 65) * row_count + (1 - 1))
    one [] l = absurd (omega arith)
    one (x ∷ xs) l = let n = short_name (x - 65) 1 (omega arith) (omega arith) in let e : 65 + (x - 65) ≡ x = omega arith in cc

long_found : (xs : List ℕ) → is_column (get_or xs 0 0) ≡ true → is_first (get_or xs 1 0) ≡ true → is_second (get_or xs 1 0) (get_or xs 2 0) ≡ true
    → Found xs ((get_or xs 0 0 - 65) * row_count + ((get_or xs 1 0 - 48) * 10 + (get_or xs 2 0 - 48) - 1)) 3
long_found xs t u v =
    let c = column_parts (get_or xs 0 0) t in
    let f = first_parts (get_or xs 1 0) u in
    let s = second_parts (get_or xs 1 0) (get_or xs 2 0) v in
    let c0 = c.0 in let c1 = c.1 in let f0 = f.0 in let f1 = f.1 in let s0 = s.0 in let s1 = s.1 in
    record {
      at = long_at xs 0 (get_or xs 0 0 - 65) (get_or xs 1 0 - 48) (get_or xs 2 0 - 48) (omega arith) (omega arith) (omega arith) s.2
          (here xs 0 _ (omega arith) (omega arith)) (here xs 1 _ (omega arith) (omega arith)) (here xs 2 _ (omega arith) (omega arith));
      digits = λ j p l. ⊎_elim (λ e. rw e f.1) (λ o. let e : j ≡ 2 = ⊎_elim (λ a. absurd (omega arith)) (λ a. omega arith) o in rw e s.1) (cases_order j 1);
    }

short_found : (xs : List ℕ) → is_column (get_or xs 0 0) ≡ true → is_first (get_or xs 1 0) ≡ true → is_second (get_or xs 1 0) (get_or xs 2 0) ≡ false
    → Found xs ((get_or xs 0 0 - 65) * row_count + (get_or xs 1 0 - 48 - 1)) 2
short_found xs t u v =
    let c = column_parts (get_or xs 0 0) t in
    let f = first_parts (get_or xs 1 0) u in
    let c0 = c.0 in let c1 = c.1 in let f0 = f.0 in let f1 = f.1 in
    record {
      at = short_at xs 0 (get_or xs 0 0 - 65) (get_or xs 1 0 - 48) (omega arith) (omega arith) (omega arith)
          (here xs 0 _ (omega arith) (omega arith)) (here xs 1 _ (omega arith) (omega arith))
          (λ low l b. ⊎_elim (λ a. a) (λ a. absurd (let b1 = b.1 in both_ways _ v (is_second_lem (get_or xs 1 0) (get_or xs 2 0) (omega arith) (omega arith) (omega arith)))) (cases_lt row_count ((get_or xs 1 0 - 48) * 10 + low)));
      digits = λ j p l. let e : j ≡ 1 = omega arith in rw e f.1;
    }

pub name_right : (xs : List ℕ) → NameRight xs (name_in xs)
name_right xs = cond_both (is_column (get_or xs 0 0)) _ _ (NameRight xs)
    (λ t. cond_both (is_first (get_or xs 1 0)) _ _ (NameRight xs)
    (λ u. cond_both (is_second (get_or xs 1 0) (get_or xs 2 0)) _ _ (NameRight xs) (long_found xs t u) (short_found xs t u))
    (no_digit xs t))
    (no_column xs)

-- what a found name leaves
pub found_splits : {xs : List ℕ} {n w : ℕ} → Found xs n w → xs ≡ name_of n ++ drop w xs
found_splits f = f.at.reads

pub found_width : {xs : List ℕ} {n w : ℕ} → Found xs n w → w ≡ length (name_of n)
found_width f = let e = f.at.next_is in omega arith

-- a text that agrees with a found name, for a byte more than the name and with no digit behind its own name, has that name
module _ (xs : List ℕ) (n w : ℕ) (f : Found xs n w) (m k : ℕ) (ys : List ℕ) (l : m < cell_count) (h : 57 < head ys) (e : take (w + suc k) xs ≡ take (w + suc k) (name_of m ++ ys)) where
  aligned_equal : length (name_of m) ≡ w → (m ≡ n) × (take (suc k) (drop w xs) ≡ take (suc k) ys)
  aligned_equal q =
      let a = take-take w (w + suc k) xs (omega arith) in
      let b = take-take w (w + suc k) (name_of m ++ ys) (omega arith) in
      let c = take_at (name_of m) ys w q in
      let d = take_at (name_of n) (drop w xs) w (sym (found_width f)) in
      let s = ap (take w) (found_splits f) in
      let same : name_of m ≡ name_of n = cc in
      let u = drop-take w (suc k) xs in
      let v = drop-take w (suc k) (name_of m ++ ys) in
      let z = drop_at (name_of m) ys w q in
      (same_name m n l f.at.within same, cc)

  aligned_shorter : length (name_of m) < w → ⊥
  aligned_shorter q =
      let s = name_shortest m l in
      let d = f.digits (length (name_of m)) (omega arith) q in
      let a = agree xs (name_of m ++ ys) (w + suc k) (length (name_of m)) (omega arith) e in
      let g = get_or-append-add (name_of m) ys 0 0 in
      let z : length (name_of m) + 0 ≡ length (name_of m) = omega arith in
      let b : get_or (name_of m ++ ys) (length (name_of m)) 0 ≡ head ys = cc in
      omega arith

  aligned_longer : w < length (name_of m) → ⊥
  aligned_longer q =
      let s = name_shortest n f.at.within in
      let t = name_length m in
      let fw = found_width f in
      let a = take-take (length (name_of m)) (w + suc k) xs (omega arith) in
      let b = take-take (length (name_of m)) (w + suc k) (name_of m ++ ys) (omega arith) in
      let c = take_at (name_of m) ys (length (name_of m)) refl in
      let d = take-append-drop (length (name_of m)) xs in
      let z : xs ≡ name_of m ++ drop (length (name_of m)) xs = cc in
      let o = f.at.longest m (drop (length (name_of m)) xs) l z in
      omega arith

  pub aligned : (m ≡ n) × (take (suc k) (drop w xs) ≡ take (suc k) ys)
  aligned = ⊎_elim aligned_equal (λ o. absurd (⊎_elim aligned_shorter aligned_longer o)) (cases_order (length (name_of m)) w)

-- a word that begins with a name
pub record Named {A : Type 0} (D : ℕ → List ℕ → A → Type 0) (s : List ℕ) (a : A) : Type 0 where
  pub cell : ℕ
  pub rest : List ℕ
  pub within : cell < cell_count
  pub splits : s ≡ name_of cell ++ rest
  pub after : D cell rest a

module _ {A : Type 0} (D : ℕ → List ℕ → A → Type 0) (heads : (n : ℕ) (s : List ℕ) (a : A) → D n s a → 57 < head s) where
  head_more : (s z : List ℕ) → 57 < head s → head (s ++ z) ≡ head s
  head_more [] z l = absurd (omega arith)
  head_more (x ∷ s) z l = refl

  full : (s : List ℕ) → 57 < head s → 0 < length s
  full [] l = absurd (omega arith)
  full (x ∷ s) l = omega arith

  after_name_lem : (xs : List ℕ) (n w : ℕ) → Found xs n w → (r : Read A) → Right (D n) (drop w xs) r → Right (Named D) xs (further w r)
  after_name_lem xs n w f (got a v) j =
      let fw = found_width f in
      let fs = found_splits f in
      let jf = j.fits in
      let ld = length-drop w xs in
      let la = length-append (name_of n) (drop w xs) in
      let lx = ap length fs in
      let t : take (w + v) xs ≡ name_of n ++ take v (drop w xs) = (let q = take-append-add (name_of n) (drop w xs) v in cc) in
      let lt = length-take v (drop w xs) in
      let pos = full (take v (drop w xs)) (heads n (take v (drop w xs)) a j.reads) in
      let sv : suc (v - 1) ≡ v = omega arith in
      record {
        fits = omega arith;
        reads = record { cell = n; rest = take v (drop w xs); within = f.at.within; splits = t; after = j.reads };
        only = λ s b z h e.
            let hs = h.splits in
            let asc = append_assoc (name_of h.cell) h.rest z in
            let hd = heads h.cell h.rest b h.after in
            let hm = head_more h.rest z hd in
            let al = aligned xs n w f h.cell (v - 1) (h.rest ++ z) h.within (omega arith) (cc) in
            let al0 = al.0 in let al1 = al.1 in
            let o = j.only h.rest b z (subst (λ c. D c h.rest b) al.0 h.after) (cc) in
            let o0 = o.0 in
            (cc, o.1);
      }
  after_name_lem xs n w f (stuck p) j =
      let fw = found_width f in
      let fs = found_splits f in
      let jf = j.fits in
      let ld = length-drop w xs in
      let la = length-append (name_of n) (drop w xs) in
      let lx = ap length fs in
      let t : take (w + p) xs ≡ name_of n ++ take p (drop w xs) = (let q = take-append-add (name_of n) (drop w xs) p in cc) in
      let sp : suc (w + p) ≡ w + suc p = omega arith in
      record {
        fits = omega arith;
        rest = j.rest;
        what = j.what;
        viable = let asc = append_assoc (name_of n) (take p (drop w xs)) j.rest in
            record { cell = n; rest = take p (drop w xs) ++ j.rest; within = f.at.within; splits = cc; after = j.viable };
        dead = λ s b z h e.
            let hs = h.splits in
            let asc = append_assoc (name_of h.cell) h.rest z in
            let hd = heads h.cell h.rest b h.after in
            let hm = head_more h.rest z hd in
            let al = aligned xs n w f h.cell p (h.rest ++ z) h.within (omega arith) (cc) in
            j.dead h.rest b z (subst (λ c. D c h.rest b) al.0 h.after) al.1;
      }

  no_name : (some : (n : ℕ) → (s : List ℕ) × (a : A) × D n s a) (xs : List ℕ) (p : ℕ) → Missed xs p → Halted (Named D) xs p
  no_name some xs p k = record {
    fits = k.fits;
    rest = k.rest ++ (some k.cell).0;
    what = (some k.cell).1;
    viable =
        let v = k.viable in
        let asc = append_assoc (take p xs) k.rest (some k.cell).0 in
        record { cell = k.cell; rest = (some k.cell).0; within = k.within; splits = cc; after = (some k.cell).2 };
    dead = λ s b z h e.
        let hs = h.splits in
        let asc = append_assoc (name_of h.cell) h.rest z in
        k.dead h.cell (h.rest ++ z) h.within (cc);
  }

  named_by : (some : (n : ℕ) → (s : List ℕ) × (a : A) × D n s a) (go : ℕ → List ℕ → Read A) → ((n : ℕ) (ys : List ℕ) → Right (D n) ys (go n ys))
      → (xs : List ℕ) (r : Read ℕ) → NameRight xs r → Right (Named D) xs (and_then r go xs)
  named_by some go right xs (got n w) f = after_name_lem xs n w f (go n (drop w xs)) (right n (drop w xs))
  named_by some go right xs (stuck p) k = no_name some xs p k

  pub named_right : (some : (n : ℕ) → (s : List ℕ) × (a : A) × D n s a) (go : ℕ → List ℕ → Read A) → ((n : ℕ) (ys : List ℕ) → Right (D n) ys (go n ys))
      → (xs : List ℕ) → Right (Named D) xs (named go xs)
  named_right some go right xs = named_by some go right xs (name_in xs) (name_right xs)
