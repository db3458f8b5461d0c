-- Rows and what they stand for. Assumes nothing.
use Rattle.std.proofs.Common.{◌≡◌, ℕ, zero, suc, ◌≤◌, Bool, true, false, cond, eqb, ◌≢◌, List, [], ◌∷◌, map, length, get_or, take, replicate, Ok, refl, ap, ◌∙◌, arith, le-leb, eq-eqb, eqb-true}
use borrow.Author.Tests.{eqb-false}
use Rattle.std.specs.List.{range_with_len}
use Rattle.std.proofs.lemmas.Bool.{cond-true}
use Rattle.interfaces.specs.declared.cell.Cell.{Cell}
use Rattle.interfaces.specs.Cells.{ask_limit, but}
use Rattle.interfaces.specs.Traces.{Pair, Trace, Planned, pairs_of, plan, recording}
use Rattle.rows.specs.declared.row.Row.{Row}
use Rattle.rows.specs.Kept.{no_row, Cleared, trace_aged, row_traces, traces_of}

pub fresh : (depth n k : ℕ) (row : Row depth) → row.count ≡ 0 → (get_or (replicate n row) k (no_row depth)).count ≡ 0
fresh depth zero k row e = refl
fresh depth (suc n) zero row e = e
fresh depth (suc n) (suc k) row e = fresh depth n k row e

module _ {V : Type 0} (canon : V → V) (blank : V) (depth : ℕ) where
  -- a row that counts nothing stands for no trace
  pub uncounted : (row : Row depth) (values : List V) (k : ℕ) → row.count ≡ 0 → row_traces canon blank depth row values k ≡ []
  unfolding row_traces
  uncounted row values k e = ap (λ n. map (trace_aged canon blank depth row values k) (range_with_len 0 n)) e

  pub forgotten : (rows next : List (Row depth)) (values : List V) (c : ℕ) → Cleared depth c rows next
      → (k : ℕ) → traces_of canon blank depth next values k ≡ but c [] (traces_of canon blank depth rows values) k
  forgotten rows next values c h k = go (eqb k c) refl
    where
      go : (b : Bool) → eqb k c ≡ b → traces_of canon blank depth next values k ≡ cond (eqb k c) [] (traces_of canon blank depth rows values k)
      go true t = rw t (rw (eqb-true k c t) (uncounted (get_or next c (no_row depth)) values c h.count))
      go false f =
          let ne : k ≢ c = eqb-false k c f in
          rw f (ap (λ (r : Row depth). row_traces canon blank depth r values k) (h.others k ne))

  -- the plan by the traces of a row
  pub plan_of_row : (alike : V → V → Bool) (row : Row depth) (values : List V) (k : ℕ) (ps : List (Pair V)) (p : Planned V)
      → p ≡ plan alike (map (trace_aged canon blank depth row values k) (range_with_len 0 row.count)) ps → p ≡ plan alike (row_traces canon blank depth row values k) ps
  unfolding row_traces
  plan_of_row alike row values k ps p h = h

  -- with no room for a trace there is none
  pub nothing_kept : (rows : List (Row depth)) (values : List V) (k : ℕ) → depth ≡ 0 → traces_of canon blank depth rows values k ≡ []
  nothing_kept rows values k e = let f = (get_or rows k (no_row depth)).few in uncounted (get_or rows k (no_row depth)) values k (omega arith)

  nothing_but : (c k : ℕ) (t : Trace V) (traces : ℕ → List (Trace V)) (d : ℕ) → d ≡ 0 → traces k ≡ [] → traces k ≡ but c (take d (t ∷ traces c)) traces k
  nothing_but c k t traces d z e = go (eqb k c) refl
    where
      go : (b : Bool) → eqb k c ≡ b → traces k ≡ cond (eqb k c) (take d (t ∷ traces c)) (traces k)
      go true p = rw p (rw z e)
      go false p = rw p refl

  pub none_recorded : (rows : List (Row depth)) (values : List V) (c : ℕ) (t : Trace V) → depth ≡ 0
      → (k : ℕ) → traces_of canon blank depth rows values k ≡ but c (take depth (t ∷ traces_of canon blank depth rows values c)) (traces_of canon blank depth rows values) k
  none_recorded rows values c t e k = nothing_but c k t (traces_of canon blank depth rows values) depth e (nothing_kept rows values k e)

-- what recording comes to, where nothing is amiss
pub recorded : {V : Type 0} (canon : V → V) (cells : List Cell) (values : List V) (result : V) → length cells ≡ length values → length cells ≤ ask_limit
    → recording canon cells values result ≡ Ok (record { asks = pairs_of canon cells values; result = canon result })
recorded canon cells values result e l = cond-true _ _ _ (eq-eqb _ _ e) ∙ cond-true _ _ _ (le-leb _ _ l)
