-- Pairs held against a trace's asks, one at a time, and the plan that comes of it. Assumes of a kind of value its laws.
use Rattle.std.proofs.Common.{◌≡◌, ℕ, suc, ◌+◌, ◌-◌, ◌<◌, ◌≤◌, Bool, true, false, cond, eqb, ◌&&◌, List, [], ◌∷◌, map, length, get_or, drop, sym, refl, ap, ◌∙◌, arith}
use mathlib.Core.Option.{Option, none, some}
use Rattle.std.specs.List.{range_with_len, list_all, zip}
use Rattle.std.proofs.lemmas.List.{drop_more}
use Rattle.interfaces.specs.declared.cell.Cell.{Cell}
use Rattle.interfaces.specs.Cells.{number_of}
use Rattle.interfaces.specs.Traces.{Pair, Trace, pairs_of, after, kept_to, exact, next_of, onward, chosen, plan, Planned, runs, keeps, next}
use Rattle.rows.specs.Kept.{trace_of, preferred}

none_either : {A : Type 0} (a b : Bool) → ◌≡◌ {A = Option A} (cond a (cond b none none) none) none
none_either true true = refl
none_either true false = refl
none_either false b = refl

length_pairs : {V : Type 0} (canon : V → V) (cs : List Cell) (vs : List V) → length cs ≤ length vs → length (pairs_of canon cs vs) ≡ length cs
length_pairs canon [] vs l = refl
length_pairs canon (c ∷ cs) [] l = absurd (omega arith)
length_pairs canon (c ∷ cs) (v ∷ vs) l = ap suc (length_pairs canon cs vs (omega arith))

-- values mean the same exactly if their normal forms do
module _ {V : Type 0} (canon : V → V) (alike : V → V → Bool) (steady : (x : V) → canon (canon x) ≡ canon x)
    (sound : (x y : V) → alike x y ≡ true → canon x ≡ canon y) (whole : (x y : V) → canon x ≡ canon y → alike x y ≡ true) where
  pub alike_canon : (x y : V) → alike (canon x) (canon y) ≡ alike x y
  alike_canon x y = go (alike x y) (alike (canon x) (canon y)) refl refl
    where
      go : (a b : Bool) → alike x y ≡ a → alike (canon x) (canon y) ≡ b → b ≡ a
      go true b p q = sym q ∙ whole (canon x) (canon y) (steady x ∙ sound x y p ∙ sym (steady y))
      go false true p q = sym (whole x y (sym (steady x) ∙ sound (canon x) (canon y) q ∙ steady y)) ∙ p
      go false false p q = refl

each_of : {A : Type 0} (a b r : Bool) (x : Option A) → cond a (cond b (cond r x none) none) none ≡ cond ((a && b) && r) x none
each_of true true r x = refl
each_of true false r x = refl
each_of false b r x = refl

module _ {V : Type 0} (canon : V → V) (alike : V → V → Bool) where
  -- whether a pair is the ask beside it
  abbrev pub meets : (Cell × V) × (Cell × V) → Bool
  meets ((c, v), (a, w)) = eqb (number_of c) (number_of a) && alike v w

  pub begins_all : (cs : List Cell) (vs : List V) (asked : List Cell) (ws : List V) → length cs ≡ length vs → length cs ≤ length asked → length asked ≤ length ws
      → ((x y : V) → alike (canon x) (canon y) ≡ alike x y)
      → after alike (pairs_of canon cs vs) (pairs_of canon asked ws)
      ≡ cond (list_all meets (zip (zip cs vs) (zip asked ws))) (some (pairs_of canon (drop (length cs) asked) (drop (length cs) ws))) none
  begins_all [] vs asked ws e l m h = refl
  begins_all (c ∷ cs) [] asked ws e l m h = absurd (omega arith)
  begins_all (c ∷ cs) (v ∷ vs) [] ws e l m h = absurd (omega arith)
  begins_all (c ∷ cs) (v ∷ vs) (a ∷ asked) [] e l m h = absurd (omega arith)
  begins_all (c ∷ cs) (v ∷ vs) (a ∷ asked) (w ∷ ws) e l m h =
      rw (h v w, begins_all cs vs asked ws (omega arith) (omega arith) (omega arith) h)
      (each_of (eqb (number_of c) (number_of a)) (alike v w) (list_all meets (zip (zip cs vs) (zip asked ws))) _)

  -- more pairs than asks
  outrun : (ps qs : List (Pair V)) → length qs < length ps → after alike ps qs ≡ none
  outrun [] qs l = absurd (omega arith)
  outrun (p ∷ ps) [] l = refl
  outrun (p ∷ ps) (q ∷ qs) l = rw (outrun ps qs (omega arith)) (none_either (eqb p.cell q.cell) (alike p.value q.value))

  pub too_many : (asked : List Cell) (answers : List V) (cells : List Cell) (values : List V) → length cells ≡ length values → length asked ≤ length answers
      → length asked < length cells → after alike (pairs_of canon cells values) (pairs_of canon asked answers) ≡ none
  too_many asked answers cells values e l m =
      outrun (pairs_of canon cells values) (pairs_of canon asked answers) (let p = length_pairs canon cells values (omega arith) in let q = length_pairs canon asked answers l in omega arith)

  -- the plan by a trace alone
  pub plan_apart : (t : Trace V) (ps : List (Pair V)) → after alike ps t.asks ≡ none → runs ≡ plan alike (t ∷ []) ps
  plan_apart t ps e = rw e refl

  module _ (blank : V) (asked : List Cell) (answers : List V) (ps : List (Pair V)) (n : ℕ)
      (e : after alike ps (pairs_of canon asked answers) ≡ some (pairs_of canon (drop n asked) (drop n answers))) where
    pub plan_onward : (d : Cell) → n < length asked → n < length answers
        → next (number_of (get_or asked n d)) ≡ plan alike (trace_of canon blank asked answers ∷ []) ps
    plan_onward d l m = rw e (rw (drop_more asked n d l, drop_more answers n blank m) refl)

  weighed : (o : Option (List (Pair V))) (r : V) (e : Option V) (w : Option ℕ)
      → chosen alike (kept_to alike o r e) (next_of alike o w) ≡ preferred (chosen alike (kept_to alike o r none) (next_of alike o none)) (chosen alike e w)
  weighed none r e w = refl
  weighed (some []) r e w = refl
  weighed (some (q ∷ qs)) r (some v) w = refl
  weighed (some (q ∷ qs)) r none none = refl
  weighed (some (q ∷ qs)) r none (some c) = refl

  -- the plan by a trace and older ones
  pub plan_more : (t : Trace V) (ts : List (Trace V)) (ps : List (Pair V))
      → plan alike (t ∷ ts) ps ≡ preferred (plan alike (t ∷ []) ps) (plan alike ts ps)
  plan_more t ts ps = weighed (after alike ps t.asks) t.result (exact alike ts ps) (onward alike ts ps)

  -- the plan that is preferred of three, whichever two are weighed first
  regroup : (a b c : Planned V) → preferred a (preferred b c) ≡ preferred (preferred a b) c
  regroup runs b c = refl
  regroup (keeps v) b c = refl
  regroup (next n) runs c = refl
  regroup (next n) (keeps v) c = refl
  regroup (next n) (next m) runs = refl
  regroup (next n) (next m) (keeps v) = refl
  regroup (next n) (next m) (next o) = refl

  alone : (a : Planned V) → preferred a runs ≡ a
  alone runs = refl
  alone (keeps v) = refl
  alone (next n) = refl

  -- the plan by `n` traces is the one preferred of that by the first `j` and that by the others
  pub record Weighed (f : ℕ → Trace V) (n : ℕ) (ps : List (Pair V)) (best : Planned V) (j : ℕ) : Type 0 where
    pub weighs : plan alike (map f (range_with_len 0 n)) ps ≡ preferred best (plan alike (map f (range_with_len j (n - j))) ps)

  module _ {f : ℕ → Trace V} {n j : ℕ} {ps : List (Pair V)} {best : Planned V} (h : Weighed f n ps best j) where
    pub weighed_more : (t : Trace V) (p more : Planned V) → j < n → t ≡ f j → p ≡ plan alike (t ∷ []) ps → more ≡ preferred best p → Weighed f n ps more (j + 1)
    weighed_more t p more l a u v =
        let e : n - j ≡ suc (n - (j + 1)) = omega arith in
        let rest = plan alike (map f (range_with_len (j + 1) (n - (j + 1)))) ps in
        record {
          weighs =
              h.weighs
              ∙ ap (λ i. preferred best (plan alike (map f (range_with_len j i)) ps)) e
              ∙ ap (preferred best) (plan_more (f j) (map f (range_with_len (j + 1) (n - (j + 1)))) ps)
              ∙ regroup best (plan alike (f j ∷ []) ps) rest
              ∙ ap (λ x. preferred (preferred best x) rest) (ap (λ x. plan alike (x ∷ []) ps) (sym a) ∙ sym u)
              ∙ ap (λ x. preferred x rest) (sym v);
        }

    pub weighed_all : n ≤ j → best ≡ plan alike (map f (range_with_len 0 n)) ps
    weighed_all l =
        let e : n - j ≡ 0 = omega arith in
        sym (h.weighs ∙ ap (λ i. preferred best (plan alike (map f (range_with_len j i)) ps)) e ∙ alone best)

    -- no older trace can do better than one of exactly the pairs
    pub weighed_kept : (v : V) → best ≡ keeps v → best ≡ plan alike (map f (range_with_len 0 n)) ps
    weighed_kept v e = e ∙ sym (h.weighs ∙ ap (λ x. preferred x (plan alike (map f (range_with_len j (n - j))) ps)) e)
