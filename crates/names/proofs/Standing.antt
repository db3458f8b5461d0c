-- A name that stands at a place, byte by byte. Assumes nothing.
use Rattle.std.proofs.Common.{◌≡◌, ℕ, ◌+◌, ◌-◌, ◌*◌, ◌/◌, ◌%◌, ◌<◌, ◌≤◌, ◌⊎◌, List, [], ◌∷◌, ◌++◌, length, drop, Some, None, decimal, refl, sym, ap, ◌∙◌, inl, inr, ⊎_elim, arith}
use Rattle.std.proofs.lemmas.List.{drop_more, length-drop}
use Rattle.std.proofs.lemmas.Bool.{cases_lt, lt-ltb, le-ltb}
use Rattle.std.proofs.lemmas.Fmt.{decimal_digit, decimal_step}
use Rattle.interfaces.specs.Cells.{cell_count, cell_numbered}
use Rattle.names.specs.Names.{ByteAt, column_count, row_count, row_name, name_of, NameAt, OneName}

-- the byte at the place, and what follows
front : (text : List ℕ) (at x : ℕ) (ys : List ℕ) → drop at text ≡ x ∷ ys → ByteAt text at x × (drop (at + 1) text ≡ ys)
front text at x ys e =
    let l = length-drop at text in
    let m = ap length e in
    let lt : at < length text = omega arith in
    let d = drop_more text at 0 lt in
    ((lt, cc), cc)

pub here : (text : List ℕ) (at x : ℕ) → ByteAt text at x → drop at text ≡ x ∷ drop (at + 1) text
here text at x h = let d = drop_more text at 0 h.0 in let e = h.1 in cc

-- a row is written in one digit or in two
short_row : (r : ℕ) → r < 10 → row_name r ≡ (48 + r) ∷ []
short_row r l = let e = lt-ltb r 10 l in rw e refl

long_row : (r : ℕ) → 10 ≤ r → row_name r ≡ (48 + r / 10) ∷ (48 + r % 10) ∷ []
long_row r l = let e = le-ltb r 10 l in rw e refl

-- a row is written in decimal
pub row_decimal : (r : ℕ) → r ≤ row_count → decimal r ≡ row_name r
row_decimal r l = ⊎_elim
    (λ s. decimal_digit r s ∙ sym (short_row r s))
    (λ s. let t = decimal_step r s (omega arith) in let d = decimal_digit (r / 10) (omega arith) in let q = long_row r s in cc)
    (cases_lt r 10)

pub short_length : (r : ℕ) → r < 10 → length (decimal r) ≡ 1
short_length r l = ap length (decimal_digit r l)

pub long_length : (r : ℕ) → 10 ≤ r → r ≤ row_count → length (decimal r) ≡ 2
long_length r g l = ap length (row_decimal r l ∙ long_row r g)

-- the bytes of the name of `m`, which stands at the place
pub record Stands (text : List ℕ) (at m : ℕ) : Type 0 where
  pub column : ByteAt text at (65 + m / row_count)
  pub digit : (d : ℕ) × (0 < d) × (d < 10) × ByteAt text (at + 1) (48 + d) × ((m % row_count + 1 ≡ d) ⊎ ((e : ℕ) × (e < 10) × (m % row_count + 1 ≡ d * 10 + e) × ByteAt text (at + 2) (48 + e)))

pub stands : (text : List ℕ) (at m : ℕ) (rest : List ℕ) → m < cell_count → drop at text ≡ name_of m ++ rest → Stands text at m
stands text at m rest l e =
    let f = front text at _ _ e in
    record { column = f.0; digit = ⊎_elim (λ s. one s f.1) (λ s. two s f.1) (cases_lt (m % row_count + 1) 10) }
  where
    one : m % row_count + 1 < 10 → drop (at + 1) text ≡ row_name (m % row_count + 1) ++ rest → (d : ℕ) × (0 < d) × (d < 10) × ByteAt text (at + 1) (48 + d) × ((m % row_count + 1 ≡ d) ⊎ ((e : ℕ) × (e < 10) × (m % row_count + 1 ≡ d * 10 + e) × ByteAt text (at + 2) (48 + e)))
    one s t =
        let q = short_row (m % row_count + 1) s in
        let g = front text (at + 1) (48 + (m % row_count + 1)) rest (cc) in
        (m % row_count + 1, omega arith, s, g.0, inl refl)

    two : 10 ≤ m % row_count + 1 → drop (at + 1) text ≡ row_name (m % row_count + 1) ++ rest → (d : ℕ) × (0 < d) × (d < 10) × ByteAt text (at + 1) (48 + d) × ((m % row_count + 1 ≡ d) ⊎ ((e : ℕ) × (e < 10) × (m % row_count + 1 ≡ d * 10 + e) × ByteAt text (at + 2) (48 + e)))
    two s t =
        let q = long_row (m % row_count + 1) s in
        let g = front text (at + 1) (48 + (m % row_count + 1) / 10) ((48 + (m % row_count + 1) % 10) ∷ rest) (cc) in
        let a : at + 1 + 1 ≡ at + 2 = omega arith in
        let g1 = g.1 in
        let h = front text (at + 2) (48 + (m % row_count + 1) % 10) rest (cc) in
        ((m % row_count + 1) / 10, omega arith, omega arith, g.0, inr ((m % row_count + 1) % 10, omega arith, omega arith, h.0))

-- names by their column and row
pub short_name : (column row : ℕ) → 0 < row → row < 10 → name_of (column * row_count + (row - 1)) ≡ (65 + column) ∷ (48 + row) ∷ []
short_name column row p l =
    let n : (column * row_count + (row - 1)) % row_count + 1 ≡ row = omega arith in
    let d : (column * row_count + (row - 1)) / row_count ≡ column = omega arith in
    let q = short_row row l in cc

pub long_name : (column row low : ℕ) → 0 < row → low < 10 → row * 10 + low ≤ row_count → name_of (column * row_count + (row * 10 + low - 1)) ≡ (65 + column) ∷ (48 + row) ∷ (48 + low) ∷ []
long_name column row low p l b =
    let n : (column * row_count + (row * 10 + low - 1)) % row_count + 1 ≡ row * 10 + low = omega arith in
    let d : (column * row_count + (row * 10 + low - 1)) / row_count ≡ column = omega arith in
    let t : (row * 10 + low) / 10 ≡ row = omega arith in
    let u : (row * 10 + low) % 10 ≡ low = omega arith in
    let q = long_row (row * 10 + low) (omega arith) in cc

-- no name is longer than three bytes
pub name_length : (m : ℕ) → length (name_of m) ≤ 3
name_length m = ⊎_elim
    (λ s. let q = ap length (short_row (m % row_count + 1) s) in omega arith)
    (λ s. let q = ap length (long_row (m % row_count + 1) s) in omega arith)
    (cases_lt (m % row_count + 1) 10)

-- a column and a digit that no second digit follows: the name of two bytes is the longest
pub short_at : (text : List ℕ) (at column row : ℕ) → column < column_count → 0 < row → row < 10 → ByteAt text at (65 + column) → ByteAt text (at + 1) (48 + row)
    → ((low : ℕ) → low < 10 → ByteAt text (at + 2) (48 + low) → row_count < row * 10 + low)
    → NameAt text at (column * row_count + (row - 1)) (at + 2)
short_at text at column row c p l b d none = record {
  within = omega arith;
  next_is = let n = ap length (short_name column row p l) in omega arith;
  reads = let x = here text at _ b in let y = here text (at + 1) _ d in let a : at + 1 + 1 ≡ at + 2 = omega arith in let n = short_name column row p l in cc;
  longest = λ m rest w e. let n = ap length (short_name column row p l) in go m w (stands text at m rest w e).digit;
}
  where
    go : (m : ℕ) → m < cell_count → (d : ℕ) × (0 < d) × (d < 10) × ByteAt text (at + 1) (48 + d) × ((m % row_count + 1 ≡ d) ⊎ ((e : ℕ) × (e < 10) × (m % row_count + 1 ≡ d * 10 + e) × ByteAt text (at + 2) (48 + e))) → length (name_of m) ≤ length (name_of (column * row_count + (row - 1)))
    go m w s =
        let n = ap length (short_name column row p l) in
        let s2 = s.2 in
        let s31 = s.3.1 in let d1 = d.1 in
        ⊎_elim
        (λ o. let q = ap length (short_row (m % row_count + 1) (omega arith)) in omega arith)
        (λ t. let r = none t.0 t.1 t.3 in let t2 = t.2 in absurd (omega arith))
        s.4

pub long_at : (text : List ℕ) (at column row low : ℕ) → column < column_count → 0 < row → low < 10 → row * 10 + low ≤ row_count → ByteAt text at (65 + column) → ByteAt text (at + 1) (48 + row) → ByteAt text (at + 2) (48 + low)
    → NameAt text at (column * row_count + (row * 10 + low - 1)) (at + 3)
long_at text at column row low c p l r b d e = record {
  within = omega arith;
  next_is = let n = ap length (long_name column row low p l r) in omega arith;
  reads = let x = here text at _ b in let y = here text (at + 1) _ d in let z = here text (at + 2) _ e in let a : at + 1 + 1 ≡ at + 2 = omega arith in let a2 : at + 2 + 1 ≡ at + 3 = omega arith in let n = long_name column row low p l r in cc;
  longest = λ m rest w s. let n = ap length (long_name column row low p l r) in let t = name_length m in omega arith;
}

-- the number of a cell that was made from a number
pub made_number : (c n : ℕ) → Some c ≡ cell_numbered n → c ≡ n
made_number c n e = ⊎_elim
    (λ l. let t = lt-ltb n cell_count l in let q : Some c ≡ Some n = e ∙ rw t refl in cc)
    (λ l. let t = le-ltb n cell_count l in let q : Some c ≡ None = e ∙ rw t refl in absurd (let z : ◌≡◌ {A = ℕ} 0 1 = cc in omega arith))
    (cases_lt n cell_count)

-- two names that begin one text, the second with a byte behind it that is no digit, are one name
-- unless the second is the longer
pub name_ends : (m n b : ℕ) (x v : List ℕ) → m < cell_count → n < cell_count → length (name_of n) ≤ length (name_of m) → b < 48 → name_of m ++ x ≡ name_of n ++ (b ∷ v) → m ≡ n
name_ends m n b x v lm ln le lb e = ⊎_elim
    (λ s. ⊎_elim (short_short s) (short_long s) (cases_lt (n % row_count + 1) 10))
    (λ s. ⊎_elim (long_short s) (long_long s) (cases_lt (n % row_count + 1) 10))
    (cases_lt (m % row_count + 1) 10)
  where
    short_short : m % row_count + 1 < 10 → n % row_count + 1 < 10 → m ≡ n
    short_short s t =
        let p = short_row (m % row_count + 1) s in let q = short_row (n % row_count + 1) t in
        let f : 65 + m / row_count ≡ 65 + n / row_count = cc in
        let g : 48 + (m % row_count + 1) ≡ 48 + (n % row_count + 1) = cc in omega arith

    short_long : m % row_count + 1 < 10 → 10 ≤ n % row_count + 1 → m ≡ n
    short_long s t =
        let p = ap length (short_row (m % row_count + 1) s) in let q = ap length (long_row (n % row_count + 1) t) in absurd (omega arith)

    long_short : 10 ≤ m % row_count + 1 → n % row_count + 1 < 10 → m ≡ n
    long_short s t =
        let p = long_row (m % row_count + 1) s in let q = short_row (n % row_count + 1) t in
        let g : 48 + (m % row_count + 1) % 10 ≡ b = cc in absurd (omega arith)

    long_long : 10 ≤ m % row_count + 1 → 10 ≤ n % row_count + 1 → m ≡ n
    long_long s t =
        let p = long_row (m % row_count + 1) s in let q = long_row (n % row_count + 1) t in
        let f : 65 + m / row_count ≡ 65 + n / row_count = cc in
        let g : 48 + (m % row_count + 1) / 10 ≡ 48 + (n % row_count + 1) / 10 = cc in
        let h : 48 + (m % row_count + 1) % 10 ≡ 48 + (n % row_count + 1) % 10 = cc in omega arith

-- cells with one name are one cell
pub one_name : OneName
one_name m n lm ln e = name_ends m n 32 (32 ∷ []) [] lm ln (let l = ap length e in omega arith) (omega arith) (ap (λ x. x ++ (32 ∷ [])) e)
