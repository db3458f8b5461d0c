-- One trace more in front: the ring turns by one place, and only that place's block is written. Assumes nothing.
use Rattle.std.proofs.Common.{◌≡◌, ℕ, zero, suc, ◌+◌, ◌-◌, ◌<◌, ◌≤◌, Bool, true, false, cond, eqb, ◌≢◌, ◌⊎◌, List, [], ◌∷◌, map, length, get_or, take, set, sym, refl, ap, ◌∙◌, inl, inr, add-one, arith, le-ltb, lt-ltb, eqb-true}
use borrow.Author.Tests.{eqb-false}
use Rattle.std.specs.List.{range_with_len}
use Rattle.std.proofs.lemmas.List.FromFn.{length-map-range_with_len, take-map-range_with_len}
use Rattle.std.proofs.lemmas.List.{get_or-set_same, get_or-set_other, get_or_past, take_all}
use Rattle.std.proofs.lemmas.Bool.{cond-true, cond-false, cases_lt, cases_eq, cases_order}
use Rattle.interfaces.specs.declared.cell.Cell.{Cell}
use Rattle.interfaces.specs.Cells.{cell_count, but}
use Rattle.interfaces.specs.Traces.{pairs_of}
use Rattle.interfaces.specs.declared.asked.Asked.{Asked}
use Rattle.interfaces.specs.Asks.{asked_cells}
use Rattle.rows.specs.declared.row.Row.{Row}
use Rattle.rows.specs.Blocks.{block_at, block, Apart, Wrote}
use Rattle.rows.specs.Rings.{place_in, before, one_up}
use Rattle.rows.proofs.Rows.{uncounted}
use Rattle.rows.specs.Kept.{no_asked, no_row, Pushed, trace_of, trace_at, trace_aged, row_traces, traces_of}

-- places in a ring

near : (depth newest age : ℕ) → age < depth - newest → place_in depth newest age ≡ newest + age
near depth newest age l = cond-true _ _ _ (lt-ltb age (depth - newest) l)

far : (depth newest age : ℕ) → depth - newest ≤ age → place_in depth newest age ≡ age - (depth - newest)
far depth newest age l = cond-false _ _ _ (le-ltb age (depth - newest) l)

-- where the ring turns to, by cases
turn : (depth newest : ℕ) → ((newest ≡ 0) × (before depth newest ≡ depth - 1)) ⊎ ((0 < newest) × (before depth newest ≡ newest - 1))
turn depth newest = go (eqb newest 0) refl
  where
    go : (b : Bool) → eqb newest 0 ≡ b → ((newest ≡ 0) × (before depth newest ≡ depth - 1)) ⊎ ((0 < newest) × (before depth newest ≡ newest - 1))
    go true e = inl (eqb-true newest 0 e, cond-true _ _ _ e)
    go false e = let ne : newest ≢ 0 = eqb-false newest 0 e in inr (omega arith, cond-false _ _ _ e)

-- a place after the turn: which it was before, and that it is another than the newest
pub record Turned (depth newest age : ℕ) : Type 0 where
  pub same : place_in depth (before depth newest) (age + 1) ≡ place_in depth newest age
  pub other : place_in depth newest age ≢ before depth newest

pub turned : (depth newest age : ℕ) → newest ≤ depth → age + 1 < depth → Turned depth newest age
turned depth newest age l m = elim (turn depth newest) [
  | inl t ↦
      let n = near depth newest age (omega (arith, t.0)) in
      let f = far depth (before depth newest) (age + 1) (omega (arith, t.0, t.1)) in
      record { same = (let e : age + 1 - (depth - before depth newest) ≡ newest + age = omega (arith, t.0, t.1) in f ∙ e ∙ sym n); other = omega (arith, t.0, t.1, n) }
  | inr t ↦ elim (cases_lt age (depth - newest)) [
    | inl k ↦
        let n = near depth newest age k in
        let f = near depth (before depth newest) (age + 1) (omega (arith, t.0, t.1)) in
        record { same = (let e : before depth newest + (age + 1) ≡ newest + age = omega (arith, t.0, t.1) in f ∙ e ∙ sym n); other = omega (arith, t.0, t.1, n) }
    | inr k ↦
        let n = far depth newest age k in
        let f = far depth (before depth newest) (age + 1) (omega (arith, t.0, t.1)) in
        record { same = (let e : age + 1 - (depth - before depth newest) ≡ age - (depth - newest) = omega (arith, t.0, t.1) in f ∙ e ∙ sym n); other = omega (arith, t.0, t.1, n) }
  ]
]

before_less : (depth newest : ℕ) → 0 < depth → newest ≤ depth → before depth newest < depth
before_less depth newest l m = elim (turn depth newest) [ inl t ↦ omega (arith, t.0, t.1) | inr t ↦ omega (arith, t.0, t.1) ]

pub newest_place : (depth newest : ℕ) → 0 < depth → newest ≤ depth → place_in depth (before depth newest) 0 ≡ before depth newest
newest_place depth newest l m =
    let b = before_less depth newest l m in
    let e : before depth newest + 0 ≡ before depth newest = omega arith in
    near depth (before depth newest) 0 (omega arith) ∙ e

-- blocks

apart_place : (p q k c : ℕ) → p ≢ q → k < cell_count → c < cell_count → Apart (block_at p k) (block_at q c)
apart_place p q k c n l m = elim (cases_order p q) [
  | inl e ↦ absurd (n e)
  | inr o ↦ elim o [ inl h ↦ inl (omega arith) | inr h ↦ inr (omega arith) ]
]

apart_cell : (p q k c : ℕ) → k ≢ c → k < cell_count → c < cell_count → Apart (block_at p k) (block_at q c)
apart_cell p q k c n l m = elim (cases_eq p q) [
  | inr h ↦ apart_place p q k c h l m
  | inl e ↦ elim (cases_order k c) [
    | inl z ↦ absurd (n z)
    | inr o ↦ elim o [ inl h ↦ inl (omega arith) | inr h ↦ inr (omega arith) ]
  ]
]

-- counted lists

shifted : {A : Type 0} (f h : ℕ → A) (a n : ℕ) → ((j : ℕ) → a ≤ j → j < a + n → h (j + 1) ≡ f j) → map h (range_with_len (a + 1) n) ≡ map f (range_with_len a n)
shifted f h a zero e = refl
shifted f h a (suc n) e =
    let p = e a (omega arith) (omega arith) in
    let q = shifted f h (a + 1) n (λ j l m. e j (omega arith) (omega arith)) in
    cc

-- as many as there are room for, of one more in front
pub in_front : {A : Type 0} (f h : ℕ → A) (t : A) (depth n m : ℕ) → 0 < depth → n ≤ depth → m ≡ one_up depth n → h 0 ≡ t
    → ((j : ℕ) → j + 1 < depth → h (j + 1) ≡ f j) → map h (range_with_len 0 m) ≡ take depth (t ∷ map f (range_with_len 0 n))
in_front f h t zero n m l k e z s = absurd (omega arith)
in_front f h t (suc d) n m l k e z s = elim (cases_lt n (suc d)) [
  | inl b ↦
      let w : m ≡ suc n = e ∙ cond-true _ _ _ (lt-ltb n (suc d) b) ∙ add-one n in
      let p = shifted f h 0 n (λ j x y. s j (omega arith)) in
      let q = take_all d (map f (range_with_len 0 n)) (let c = length-map-range_with_len f 0 n in omega arith) in
      ap (λ i. map h (range_with_len 0 i)) w ∙ cc
  | inr b ↦
      let w : m ≡ suc d = e ∙ cond-false _ _ _ (le-ltb n (suc d) b) ∙ omega arith in
      let p = shifted f h 0 d (λ j x y. s j (omega arith)) in
      let q = take-map-range_with_len f 0 n d (omega arith) in
      ap (λ i. map h (range_with_len 0 i)) w ∙ cc
]

-- pairs depend on no more values than there are cells
pairs_front : {V : Type 0} (canon : V → V) (cs : List Cell) (vs ws : List V) → length cs ≡ length vs → take (length vs) ws ≡ vs
    → pairs_of canon cs ws ≡ pairs_of canon cs vs
pairs_front canon [] vs ws l e = refl
pairs_front canon (c ∷ cs) [] ws l e = absurd (omega arith)
pairs_front canon (c ∷ cs) (v ∷ vs) [] l e = absurd (let z : ◌≡◌ {A = ℕ} 0 1 = cc in omega arith)
pairs_front canon (c ∷ cs) (v ∷ vs) (w ∷ ws) l e =
    let p : w ≡ v = cc in
    let q : take (length vs) ws ≡ vs = cc in
    let r = pairs_front canon cs vs ws (omega arith) q in
    cc

same_counted : {A : Type 0} (f h : ℕ → A) (a n : ℕ) → ((j : ℕ) → f j ≡ h j) → map f (range_with_len a n) ≡ map h (range_with_len a n)
same_counted f h a zero e = refl
same_counted f h a (suc n) e =
    let p = e a in
    let q = same_counted f h (a + 1) n e in
    cc

module _ {V : Type 0} (canon : V → V) (blank : V) (depth : ℕ) where
  same_trace : (a b : Asked) (x y : List V) → a ≡ b → x ≡ y → trace_of canon blank (asked_cells a) x ≡ trace_of canon blank (asked_cells b) y
  same_trace a b x y p q = ap (λ s. trace_of canon blank (asked_cells s) x) p ∙ ap (trace_of canon blank (asked_cells b)) q

  -- a row whose blocks are as they were stands for what it stood for
  same_row : (row : Row depth) (values new : List V) (k : ℕ) → ((p : ℕ) → block (block_at p k) new ≡ block (block_at p k) values)
      → row_traces canon blank depth row new k ≡ row_traces canon blank depth row values k
  unfolding row_traces
  same_row row values new k e =
      same_counted (trace_aged canon blank depth row new k) (trace_aged canon blank depth row values k) 0 row.count
      (λ j. same_trace (get_or row.asked (place_in depth row.newest j) no_asked) _ _ _ refl (e (place_in depth row.newest j)))

  module _ (old row : Row depth) (values new : List V) (c : ℕ) (asked : Asked) (cells : List Cell) (answers : List V) (result : V)
      (deep : 0 < depth) (inside : c < cell_count) (size : length old.asked ≡ depth)
      (at-newest : row.newest ≡ before depth old.newest) (counted : row.count ≡ one_up depth old.count)
      (at-asked : row.asked ≡ set old.asked (before depth old.newest) asked)
      (holds : asked_cells asked ≡ cells) (even : length cells ≡ length answers)
      (wrote : Wrote blank (block_at (before depth old.newest) c) answers result values new) where
    newest_trace : trace_aged canon blank depth row new c 0 ≡ record { asks = pairs_of canon cells answers; result = canon result }
    newest_trace =
        let b = before_less depth old.newest deep old.round in
        let p : place_in depth row.newest 0 ≡ before depth old.newest = ap (λ n. place_in depth n 0) at-newest ∙ newest_place depth old.newest deep old.round in
        let l : before depth old.newest < length old.asked = omega arith in
        let a : get_or row.asked (before depth old.newest) no_asked ≡ asked =
        ap (λ (r : List Asked). get_or r (before depth old.newest) no_asked) at-asked ∙ get_or-set_same old.asked (before depth old.newest) asked no_asked l in
        ap (trace_at canon blank depth row new c) p
        ∙ ap (λ s. trace_of canon blank (asked_cells s) (block (block_at (before depth old.newest) c) new)) a
        ∙ ap (λ s. trace_of canon blank s (block (block_at (before depth old.newest) c) new)) holds
        ∙ (let f = pairs_front canon cells answers (block (block_at (before depth old.newest) c) new) even wrote.front in
        let r = wrote.last in
        cc)

    older_trace : (j : ℕ) → j + 1 < depth → trace_aged canon blank depth row new c (j + 1) ≡ trace_aged canon blank depth old values c j
    older_trace j l =
        let t = turned depth old.newest j old.round l in
        let p : place_in depth row.newest (j + 1) ≡ place_in depth old.newest j = ap (λ n. place_in depth n (j + 1)) at-newest ∙ t.same in
        let a : get_or row.asked (place_in depth old.newest j) no_asked ≡ get_or old.asked (place_in depth old.newest j) no_asked =
        ap (λ (r : List Asked). get_or r (place_in depth old.newest j) no_asked) at-asked
        ∙ get_or-set_other old.asked (before depth old.newest) (place_in depth old.newest j) asked no_asked t.other in
        ap (trace_at canon blank depth row new c) p
        ∙ same_trace _ _ _ _ a (wrote.others _ (apart_place (place_in depth old.newest j) (before depth old.newest) c c t.other inside inside))

    pushed_row : row_traces canon blank depth row new c ≡ take depth (record { asks = pairs_of canon cells answers; result = canon result } ∷ row_traces canon blank depth old values c)
    unfolding row_traces
    pushed_row =
        in_front (trace_aged canon blank depth old values c) (trace_aged canon blank depth row new c) _ depth old.count row.count deep old.few counted newest_trace older_trace

  -- the rows of other cells stand for what they stood for
  other_row : (place c : ℕ) {answers values new : List V} {result : V} → Wrote blank (block_at place c) answers result values new → c < cell_count
      → (rows : List (Row depth)) (k : ℕ) → length rows ≡ cell_count → k ≢ c
      → row_traces canon blank depth (get_or rows k (no_row depth)) new k ≡ row_traces canon blank depth (get_or rows k (no_row depth)) values k
  other_row place c {answers} {values} {new} {result} wrote inside rows k l n = elim (cases_lt k cell_count) [
    | inl h ↦ same_row (get_or rows k (no_row depth)) values new k (λ p. wrote.others _ (apart_cell p place k c n h inside))
    | inr h ↦
        let e = ap (λ (r : Row depth). r.count) (get_or_past rows k (no_row depth) (omega arith)) in
        uncounted canon blank depth (get_or rows k (no_row depth)) new k e ∙ sym (uncounted canon blank depth (get_or rows k (no_row depth)) values k e)
  ]

  pub pushed : (rows next : List (Row depth)) (values new : List V) (c : ℕ) (asked : Asked) (cells : List Cell) (answers : List V) (result : V)
      → 0 < depth → c < cell_count → length rows ≡ cell_count → length (get_or rows c (no_row depth)).asked ≡ depth → asked_cells asked ≡ cells → length cells ≡ length answers
      → Pushed depth c asked rows next → Wrote blank (block_at (before depth (get_or rows c (no_row depth)).newest) c) answers result values new
      → (k : ℕ) → traces_of canon blank depth next new k
      ≡ but c (take depth (record { asks = pairs_of canon cells answers; result = canon result } ∷ traces_of canon blank depth rows values c)) (traces_of canon blank depth rows values) k
  pushed rows next values new c asked cells answers result deep inside whole size holds even p w k = go (eqb k c) refl
    where
      go : (b : Bool) → eqb k c ≡ b
          → traces_of canon blank depth next new k
          ≡ cond (eqb k c) (take depth (record { asks = pairs_of canon cells answers; result = canon result } ∷ traces_of canon blank depth rows values c)) (traces_of canon blank depth rows values k)
      go true t =
          rw t (rw (eqb-true k c t)
          (pushed_row (get_or rows c (no_row depth)) (get_or next c (no_row depth)) values new c asked cells answers result deep inside size p.newest p.count p.asks holds even w))
      go false f =
          let ne : k ≢ c = eqb-false k c f in
          rw f (ap (λ (r : Row depth). row_traces canon blank depth r new k) (p.others k ne) ∙ other_row (before depth (get_or rows c (no_row depth)).newest) c w inside rows k whole ne)
