-- The traces that a row stands for are within their limits, whatever the row and the memory. Assumes nothing.
use Rattle.std.specs.Prelude.{ℕ, zero, suc, ◌+◌, ◌≤◌, List, [], ◌∷◌, map, length, slice_index_or}
use Rattle.std.proofs.Common.{arith}
use Rattle.std.specs.List.{range_with_len, AllByRecursion}
use Rattle.std.proofs.lemmas.List.FromFn.{length-map-range_with_len}
use Rattle.std.proofs.lemmas.List.{length-take}
use Rattle.interfaces.specs.declared.cell.Cell.{Cell}
use Rattle.interfaces.specs.Cells.{ask_limit}
use Rattle.interfaces.specs.Traces.{Bounded, pairs_of}
use Rattle.interfaces.specs.declared.asked.Asked.{Asked}
use Rattle.rows.specs.declared.row.Row.{Row}
use Rattle.interfaces.specs.Asks.{asked_cells}
use Rattle.rows.specs.Kept.{no_asked, trace_aged, row_traces}
use Rattle.rows.specs.Blocks.{block_at, block}
use Rattle.rows.specs.Rings.{place_in}

few_pairs : {V : Type 0} (canon : V → V) (cs : List Cell) (vs : List V) → length (pairs_of canon cs vs) ≤ length cs
few_pairs canon [] vs = omega arith
few_pairs canon (c ∷ cs) [] = omega arith
few_pairs canon (c ∷ cs) (v ∷ vs) = let h = few_pairs canon cs vs in omega arith

few_asked : (a : Asked) → length (asked_cells a) ≤ ask_limit
few_asked a = let h = a.short in simp length-take (omega arith)

short_pairs : {V : Type 0} (canon : V → V) (a : Asked) (vs : List V) → length (pairs_of canon (asked_cells a) vs) ≤ ask_limit
short_pairs canon a vs = let h = few_pairs canon (asked_cells a) vs in let l = few_asked a in omega arith

all_counted : {A : Type 0} (P : A → Type 0) (f : ℕ → A) (a n : ℕ) → ((i : ℕ) → P (f i)) → AllByRecursion P (map f (range_with_len a n))
all_counted P f a zero h = tt
all_counted P f a (suc n) h = (h a, all_counted P f (a + 1) n h)

pub within : {V : Type 0} (canon : V → V) (blank : V) (depth : ℕ) (row : Row depth) (values : List V) (k : ℕ)
    → Bounded depth (row_traces canon blank depth row values k)
unfolding row_traces
within canon blank depth row values k = record {
  few = let h = row.few in simp length-map-range_with_len (omega arith);
  short = all_counted _ (trace_aged canon blank depth row values k) 0 row.count (λ i. short_pairs canon (slice_index_or row.asked (place_in depth row.newest i) no_asked) (block (block_at (place_in depth row.newest i) k) values));
}
