-- The report list, and pairs of cells and values.
use Rattle.std.proofs.Common.{◌≡◌, ℕ, ◌+◌, ◌<◌, List, [], ◌∷◌, ◌++◌, map, length, take, drop, Some, sym, refl, ap, ◌∙◌, subst, append-nil, arith, length-append, length-set}
use Rattle.std.proofs.lemmas.List.{take_more_set, drop-set-lt, map-append}
use Rattle.std.proofs.lemmas.Grind.{drop_more_same}
use Rattle.std.proofs.lemmas.Bool.{cond_below}
use Rattle.interfaces.specs.declared.cell.Cell.{Cell}
use Rattle.interfaces.specs.Cells.{cell_count, number_of}
use Rattle.interfaces.specs.Traces.{pairs_of}
use Rattle.past.specs.Afresh.{values}
use Rattle.past.specs.Past.{Run, cells}
use Rattle.moves.specs.declared.answer.Ran.{Ran}
use Rattle.moves.specs.Moves.{count_after, list_after}
use Rattle.scheduler.specs.Outcomes.{ran_entry, run_entry, Listed}

module _ {V : Type 0} where
  pub listed_same : {r r' : List (Run V)} {ran : ℕ} {list first : List Ran} → r ≡ r' → Listed r ran list first → Listed r' ran list first
  listed_same {ran = ran} {list = list} {first = first} e k = subst (λ z. Listed z ran list first) e k

  -- no more runs
  pub listed_on : (r : List (Run V)) {more : List (Run V)} {ran : ℕ} {list first : List Ran} → more ≡ [] → Listed r ran list first → Listed (r ++ more) ran list first
  listed_on r e k = listed_same (sym (ap (λ z. r ++ z) e ∙ append-nil r)) k

  -- one more run
  pub listed_push : (r : List (Run V)) (ran : ℕ) (list first : List Ran) (ran' : ℕ) (list' : List Ran) (y : Ran) (a : Run V) → ran_entry y ≡ run_entry a → Listed r ran list first → length r < cell_count
      → ran' ≡ count_after (Some y) ran list → list' ≡ list_after (Some y) ran list → Listed (r ++ (a ∷ [])) ran' list' first
  listed_push r ran list first ran' list' y a same k h counts lists =
      let here : ran < length list = omega (arith, k.count_is, k.room, k.length_is) in
      let q : ran' ≡ ran + 1 = counts ∙ sym (cond_below ran (length list) (ran + 1) ran here) in
      record {
        count_is = omega (arith, q, k.count_is, length-append r (a ∷ []));
        front_is = ap (λ z. map ran_entry (take z list')) (q) ∙ ap (λ z. map ran_entry (take (ran + 1) z)) (lists) ∙ ap (map ran_entry) (take_more_set list ran y here) ∙ map-append ran_entry (take ran list) (y ∷ [])
            ∙ ap (λ z. z ++ (ran_entry y ∷ [])) k.front_is ∙ ap (λ z. map run_entry r ++ (z ∷ [])) same ∙ sym (map-append run_entry r (a ∷ []));
        rest_is = ap (λ z. drop z list') (q) ∙ ap (drop (ran + 1)) (lists) ∙ drop-set-lt (ran + 1) list ran y (omega arith) ∙ drop_more_same list first ran k.rest_is ∙ ap (λ z. drop z first) (sym (q));
        length_is = ap length (lists) ∙ length-set list ran y ∙ k.length_is;
        room = k.room;
      }

module _ {V : Type 0} (canon : V → V) where
  pub cells_pairs : (cs : List Cell) (vs : List V) → length cs ≡ length vs → cells (pairs_of canon cs vs) ≡ map number_of cs
  cells_pairs [] vs e = refl
  cells_pairs (c ∷ cs) [] e = absurd (omega (arith, e))
  cells_pairs (c ∷ cs) (v ∷ vs) e = ap (λ z. number_of c ∷ z) (cells_pairs cs vs (omega (arith, e)))

  pub values_pairs : (cs : List Cell) (vs : List V) → length cs ≡ length vs → values (pairs_of canon cs vs) ≡ map canon vs
  values_pairs [] [] e = refl
  values_pairs [] (v ∷ vs) e = absurd (omega (arith, e))
  values_pairs (c ∷ cs) [] e = absurd (omega (arith, e))
  values_pairs (c ∷ cs) (v ∷ vs) e = ap (λ z. canon v ∷ z) (values_pairs cs vs (omega (arith, e)))

  pub length_pairs : (cs : List Cell) (vs : List V) → length cs ≡ length vs → length (pairs_of canon cs vs) ≡ length cs
  length_pairs [] vs e = refl
  length_pairs (c ∷ cs) [] e = absurd (omega (arith, e))
  length_pairs (c ∷ cs) (v ∷ vs) e = omega (arith, length_pairs cs vs (omega (arith, e)))

  pairs_push : (cs : List Cell) (vs : List V) (a : Cell) (v : V) → length cs ≡ length vs → pairs_of canon (cs ++ (a ∷ [])) (vs ++ (v ∷ [])) ≡ pairs_of canon cs vs ++ (record { cell = number_of a; value = canon v } ∷ [])
  pairs_push [] [] a v e = refl
  pairs_push [] (w ∷ vs) a v e = absurd (omega (arith, e))
  pairs_push (c ∷ cs) [] a v e = absurd (omega (arith, e))
  pairs_push (c ∷ cs) (w ∷ vs) a v e = ap (λ z. record { cell = number_of c; value = canon w } ∷ z) (pairs_push cs vs a v (omega (arith, e)))

  -- one more pair
  pub pairs_on : {xs : List Cell} {ys : List V} (cs : List Cell) (vs : List V) (a : Cell) (v : V) → xs ≡ cs ++ (a ∷ []) → ys ≡ vs ++ (v ∷ []) → length cs ≡ length vs
      → pairs_of canon xs ys ≡ pairs_of canon cs vs ++ (record { cell = number_of a; value = canon v } ∷ [])
  pairs_on {ys = ys} cs vs a v e f n = ap (λ z. pairs_of canon z ys) e ∙ ap (λ z. pairs_of canon (cs ++ (a ∷ [])) z) f ∙ pairs_push cs vs a v n
