-- Reports and chains are no longer than there are cells, and a chain goes from the queried cell to the cell of the fault.
use Rattle.std.proofs.Common.{◌≡◌, ℕ, ◌+◌, ◌<◌, ◌≤◌, Bool, List, [], ◌∷◌, ◌++◌, length, sym, refl, ap, ◌∙◌, append_assoc, append-nil, arith, length-append}
use mathlib.Core.Option.{none}
use Rattle.interfaces.specs.Cells.{cell_count}
use Rattle.interfaces.specs.Tasks.{Def, Verdict}
use Rattle.interfaces.specs.Traces.{Pair}
use Rattle.past.specs.Afresh.{In, first, later, State, Finishing, Layer, Outcome, fault, Steps, breaks, ninth, circle, reads, descends, sinks, Afresh, worked}
use Rattle.past.specs.Past.{Lent, Run, queried, Past, ◌▹◌, defs, state, Report, end, ran, idle, again}
use Rattle.past.specs.Law.{Right, Lawful}
use Rattle.past.specs.Theorems.{Chained}
use Rattle.past.proofs.Lists.{Ends, free, free_most, free_fewer, free_front}
use Rattle.past.proofs.Total.{below_count}
use Rattle.past.proofs.Whole.{all_whole}
use Rattle.past.proofs.Decided.{bound}

module _ {M : Type 0} (s : State M) (bound : (c : ℕ) → cell_count ≤ c → s.defs c ≡ none) where
  record Lengthened (path : List ℕ) (at : ℕ) (chain : List ℕ) : Type 0 where
    rest : List ℕ
    is : chain ≡ path ++ rest
    ends : Ends chain at
    short : length chain ≤ cell_count

  -- a path with no cell twice
  Roomy : List ℕ → Type 0
  Roomy path = length path + free cell_count path ≤ cell_count

  here : {path : List ℕ} {c : ℕ} → Ends path c → Roomy path → Lengthened path c path
  unfolding Roomy
  here {path} e r = record { rest = []; is = sym (append-nil path); ends = e; short = omega arith }

  chain_on : {path : List ℕ} {c : ℕ} {d : Def M} {asked : List (Pair M)} {l : List (Finishing M)} {n m at : ℕ} {layer : Layer} {chain : List ℕ}
      → Steps s path c d asked l (fault n m at layer chain) → Ends path c → Roomy path → Lengthened path at chain
  unfolding Roomy
  chain_on (breaks _) e r = here e r
  chain_on (ninth _ _) e r = here e r
  chain_on (circle _ _ _ _) e r = here e r
  chain_on (reads _ _ _ t) e r = chain_on t e r
  chain_on (descends _ _ _ _ _ t) e r = chain_on t e r
  chain_on {path} (sinks {a = a} _ _ q n t) e r =
      let w = chain_on t (record { pre = path; is = refl }) (omega (arith, length-append path (a ∷ []), free_fewer cell_count a path (below_count s bound q) n)) in
      record { rest = a ∷ w.rest; is = w.is ∙ append_assoc path (a ∷ []) w.rest; ends = w.ends; short = w.short }

  chain_right : {c : ℕ} {l : List (Finishing M)} {n m at : ℕ} {layer : Layer} {chain : List ℕ} → Afresh s [] c l (fault n m at layer chain) → Chained c at chain
  unfolding Roomy
  chain_right {c} (worked q t) =
      let w = chain_on t (record { pre = []; is = refl }) (omega (arith, free_most cell_count [], free_front cell_count c [] (below_count s bound q) (λ i. elim i [ ]))) in
      record { after = w.rest; begins = w.is; before = w.ends.pre; ends = w.ends.is; short = w.short }

module _ {M : Type 0} (blank : M) (locks : ℕ → Bool) (stands : List ℕ → Verdict M) (depth : ℕ) where
  report_free : {p : Past M} {seen : List ℕ} {l : List (Finishing M)} {r : List (Run M)} → Report blank depth p seen l r
      → ((f : Finishing M) → In f l → f.cell < cell_count) → length r ≤ free cell_count seen
  report_free end k = omega arith
  report_free {seen = seen} (ran {f = f} n u c r) k = omega (arith, report_free r (λ g i. k g (later i)), free_front cell_count f.cell seen (k f (first refl)) n)
  report_free {seen = seen} (idle {f = f} n u r) k = omega (arith, report_free r (λ g i. k g (later i)), free_front cell_count f.cell seen (k f (first refl)) n)
  report_free (again o r) k = report_free r (λ g i. k g (later i))

  pub report_short : (p : Past M) (c : ℕ) (lent : Lent) (l : List (Finishing M)) (o : Outcome M) (r : List (Run M))
      → Lawful blank locks stands depth (p ▹ queried c lent l o r) → length r ≤ cell_count
  unfolding Lawful Right
  report_short p c lent l o r h = omega (arith, free_most cell_count [], report_free h.2.2 small)
    where
      small : (f : Finishing M) → In f l → f.cell < cell_count
      small f i = let w = all_whole (state blank p) h.2.1 i in below_count (state blank p) (bound blank locks stands depth p h.0) (ap (λ z. defs p z) w.cell_is ∙ w.def_is)

  pub chain_leads : (p : Past M) (c : ℕ) (lent : Lent) (l : List (Finishing M)) (n m at : ℕ) (layer : Layer) (chain : List ℕ) (r : List (Run M))
      → Lawful blank locks stands depth (p ▹ queried c lent l (fault n m at layer chain) r) → Chained c at chain
  unfolding Lawful Right
  chain_leads p c lent l n m at layer chain r h = chain_right (state blank p) (bound blank locks stands depth p h.0) h.2.1
