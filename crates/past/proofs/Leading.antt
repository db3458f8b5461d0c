-- A cell that finishes on the empty path finishes alike on every path that leads to it: a cell of the path that
-- finished below it would have to finish with less than it takes itself.
use Rattle.std.proofs.Common.{◌≡◌, ℕ, ◌<◌, ◌≤◌, ◌⊎◌, List, [], ◌∷◌, length, sym, refl, ap, subst, inl, inr, arith, length-append}
use mathlib.Core.Option.{some}
use Rattle.interfaces.specs.Tasks.{Def}
use Rattle.interfaces.specs.Traces.{Pair}
use Rattle.past.specs.Afresh.{In, State, Finishing, gave, Steps, finishes, reads, descends, Afresh, input, worked}
use Rattle.past.specs.Theorems.{ComesTo, now, next, Leads, begin, onward}
use Rattle.past.proofs.Lists.{in_both, in_one}
use Rattle.past.proofs.Alone.{ask_give, one_ask, none_some, one_def, alike}
use Rattle.past.proofs.Whole.{all_whole}
use Rattle.past.proofs.Elsewhere.{elsewhere}
use Rattle.past.proofs.Fitting.{some_log, right_input, right_defined}

module _ {M : Type 0} (s : State M) where
  -- the cell has finished on some path, with a log of fewer than n
  record Within (n : ℕ) (c : ℕ) (e : Def M) : Type 0 where
    path : List ℕ
    log : List (Finishing M)
    value : M
    steps : Steps s path c e [] log (gave value)
    fewer : length log < n

  wider : {n m c : ℕ} {e : Def M} → n ≤ m → Within n c e → Within m c e
  wider h w = record { path = w.path; log = w.log; value = w.value; steps = w.steps; fewer = omega (arith, w.fewer) }

  -- what a cell that finishes comes to ask for finishes within it
  asked_within : {path way : List ℕ} {c a : ℕ} {d d' e : Def M} {x x' : List (Pair M)} {l : List (Finishing M)} {v : M} → d ≡ d' → x ≡ x' → s.defs a ≡ some e
      → Steps s path c d x l (gave v) → ComesTo s way d' a x' → Within (length l) a e
  asked_within f g u (finishes p) (now q) = absurd (ask_give (sym f) (sym g) q p)
  asked_within f g u (finishes p) (next q _ _) = absurd (ask_give (sym f) (sym g) q p)
  asked_within f g u (reads p _ n t) (now q) = absurd (none_some s (one_ask f g p q) n u)
  asked_within f g u (reads p _ n t) (next {b = b} q w k) = let i = one_ask f g p q in let h = (right_input s i n w).1 in asked_within f (cc) u t k
  asked_within {a = a} {e = e} f g u (descends {a = a'} {e = e'} {v = v'} {below = below} {log = log} p _ n _ t t') (now q) =
      let i = one_ask f g p q in
      record { path = _; log = below; value = v'; steps = moved i (one_def s i n u) t; fewer = omega (arith, length-append below log, some_log s t') }
    where
      moved : {c c' : ℕ} {d d' : Def M} {path : List ℕ} → c ≡ c' → d ≡ d' → Steps s path c d [] below (gave v') → Steps s path c' d' [] below (gave v')
      moved {c' = c'} {d = d} {path = path} i j t = subst (λ z. Steps s path c' z [] below (gave v')) j (subst (λ z. Steps s path z d [] below (gave v')) i t)
  asked_within f g u (descends {below = below} {log = log} p _ n _ t t') (next q w k) =
      let i = one_ask f g p q in
      let h = (right_defined s i n t w).1 in
      wider (omega (arith, length-append below log)) (asked_within f (cc) u t' k)

  -- so does a cell that the path leads to, within each cell of the path
  led_within : {path way : List ℕ} {c y : ℕ} {d e : Def M} {l : List (Finishing M)} {v : M} → Leads s path c → In y path → s.defs y ≡ some d → s.defs c ≡ some e
      → Steps s way y d [] l (gave v) → Within (length l) c e
  led_within begin i u w t = elim i [ ]
  led_within {y = y} {d = d} {e = e} {l = l} (onward {path = path} {c = c} {a = a} {d = d'} k q m) i u w t = go (λ j. led_within k j u q t) (in_both path i)
    where
      go : (In y path → Within (length l) c d') → In y path ⊎ In y (c ∷ []) → Within (length l) a e
      go ih (inl j) = let h = ih j in wider (omega (arith, h.fewer)) (asked_within refl refl w h.steps m)
      go ih (inr j) = asked_within (one_def s (in_one j) u q) refl w t m

  pub on_the_way : {path : List ℕ} {c : ℕ} {log : List (Finishing M)} {v : M} → Leads s path c → Afresh s [] c log (gave v) → Afresh s path c log (gave v)
  on_the_way k (input n) = input n
  on_the_way {path} {c} {log} {v} k (worked {d = d} q t) = elsewhere s {path = []} (worked q t) path apart
    where
      apart : (f : Finishing M) → In f log → ¬ In f.cell path
      apart f i j =
          let w = all_whole s {path = []} (worked q t) i in
          let h = led_within k (subst (λ z. In z path) w.cell_is j) w.def_is q w.steps in
          omega (arith, h.fewer, w.short, ap length (alike s refl refl refl h.steps t).0)
