-- Reports: of longer logs, and of logs with a part that is in them already.
use Rattle.std.proofs.Common.{◌≡◌, ℕ, ◌⊎◌, List, [], ◌∷◌, ◌++◌, sym, refl, ◌∙◌, subst, inl, inr}
use mathlib.Core.Option.{Option, none}
use native.Mathlib.Decide.{ℕ_discrete}
use Rattle.past.specs.Afresh.{In, first, later, Finishing, Log}
use Rattle.past.specs.Past.{Past, Run, found, Cause, Runs, Report, end, ran, again, idle}
use Rattle.past.proofs.Lists.{no_some, dec_in}
use Rattle.past.proofs.Whole.{found_here, found_past}

module _ {M : Type 0} (blank : M) (depth : ℕ) (p : Past M) where
  report_tail : (seen : List ℕ) (m : Log M) → ((f : Finishing M) → In f m → In f.cell seen ⊎ (¬ (found {M = M} [] f.cell ≡ none) ⊎ ¬ Runs blank depth p f.cell)) → Report blank depth p seen m []
  unfolding found
  report_tail seen [] k = end
  report_tail seen (f ∷ m) k = go (dec_in f.cell seen) (k f (first refl)) (report_tail seen m (λ g i. k g (later i))) (report_tail (f.cell ∷ seen) m (λ g i. wider g (k g (later i))))
    where
      wider : (g : Finishing M) → In g.cell seen ⊎ (¬ (found {M = M} [] g.cell ≡ none) ⊎ ¬ Runs blank depth p g.cell) → In g.cell (f.cell ∷ seen) ⊎ (¬ (found {M = M} [] g.cell ≡ none) ⊎ ¬ Runs blank depth p g.cell)
      wider g (inl o) = inl (later o)
      wider g (inr o) = inr o

      go : Dec (In f.cell seen) → In f.cell seen ⊎ (¬ (◌≡◌ {A = Option (Finishing M)} none none) ⊎ ¬ Runs blank depth p f.cell) → Report blank depth p seen m [] → Report blank depth p (f.cell ∷ seen) m [] → Report blank depth p seen (f ∷ m) []
      go (yes o) _ r _ = again o r
      go (no n) (inl o) r r' = absurd (n o)
      go (no n) (inr (inl z)) r r' = absurd (z refl)
      go (no n) (inr (inr z)) r r' = idle n z r'

  -- more finishings, of cells that do not run
  pub report_on : {seen : List ℕ} {l : Log M} {r : List (Run M)} → Report blank depth p seen l r → (m : Log M)
      → ((f : Finishing M) → In f m → In f.cell seen ⊎ (¬ (found l f.cell ≡ none) ⊎ ¬ Runs blank depth p f.cell)) → Report blank depth p seen (l ++ m) r
  report_on {seen} end m k = report_tail seen m k
  report_on {seen} (ran {f = g} {log = l} n u c r) m k = ran n u c (report_on r m (λ f i. move f (k f i)))
    where
      move : (f : Finishing M) → In f.cell seen ⊎ (¬ (found (g ∷ l) f.cell ≡ none) ⊎ ¬ Runs blank depth p f.cell) → In f.cell (g.cell ∷ seen) ⊎ (¬ (found l f.cell ≡ none) ⊎ ¬ Runs blank depth p f.cell)
      move f (inl o) = inl (later o)
      move f (inr (inr z)) = inr (inr z)
      move f (inr (inl z)) = here (ℕ_discrete f.cell g.cell)
        where
          here : Dec (f.cell ≡ g.cell) → In f.cell (g.cell ∷ seen) ⊎ (¬ (found l f.cell ≡ none) ⊎ ¬ Runs blank depth p f.cell)
          here (yes e) = inl (first e)
          here (no q) = inr (inl (λ e. z (found_past g l f.cell q ∙ e)))
  report_on {seen} (idle {f = g} {log = l} n u r) m k = idle n u (report_on r m (λ f i. move f (k f i)))
    where
      move : (f : Finishing M) → In f.cell seen ⊎ (¬ (found (g ∷ l) f.cell ≡ none) ⊎ ¬ Runs blank depth p f.cell) → In f.cell (g.cell ∷ seen) ⊎ (¬ (found l f.cell ≡ none) ⊎ ¬ Runs blank depth p f.cell)
      move f (inl o) = inl (later o)
      move f (inr (inr z)) = inr (inr z)
      move f (inr (inl z)) = here (ℕ_discrete f.cell g.cell)
        where
          here : Dec (f.cell ≡ g.cell) → In f.cell (g.cell ∷ seen) ⊎ (¬ (found l f.cell ≡ none) ⊎ ¬ Runs blank depth p f.cell)
          here (yes e) = inl (first e)
          here (no q) = inr (inl (λ e. z (found_past g l f.cell q ∙ e)))
  report_on {seen} (again {f = g} {log = l} o' r) m k = again o' (report_on r m (λ f i. move f (k f i)))
    where
      move : (f : Finishing M) → In f.cell seen ⊎ (¬ (found (g ∷ l) f.cell ≡ none) ⊎ ¬ Runs blank depth p f.cell) → In f.cell seen ⊎ (¬ (found l f.cell ≡ none) ⊎ ¬ Runs blank depth p f.cell)
      move f (inl o) = inl o
      move f (inr (inr z)) = inr (inr z)
      move f (inr (inl z)) = here (ℕ_discrete f.cell g.cell)
        where
          here : Dec (f.cell ≡ g.cell) → In f.cell seen ⊎ (¬ (found l f.cell ≡ none) ⊎ ¬ Runs blank depth p f.cell)
          here (yes e) = inl (subst (λ z. In z seen) (sym e) o')
          here (no q) = inr (inl (λ e. z (found_past g l f.cell q ∙ e)))

  -- one more finishing, that of a run
  pub report_run_lem : {seen : List ℕ} {l : Log M} {r : List (Run M)} → Report blank depth p seen l r → (f : Finishing M) {y : ℕ} → ¬ In f.cell seen → found l f.cell ≡ none
      → Runs blank depth p f.cell → Cause blank p f.cell y
      → Report blank depth p seen (l ++ (f ∷ [])) (r ++ (record { cell = f.cell; cause = y; trace = record { asks = f.asks; result = f.result } } ∷ []))
  report_run_lem end f n e u c = ran n u c end
  report_run_lem {seen} (ran {f = g} {log = l} {r = r₀} {y = y₀} n' u' c' r) f {y} n e u c = go (ℕ_discrete f.cell g.cell) (λ q. report_run_lem r f (λ o. away q o) (sym (found_past g l f.cell q) ∙ e) u c)
    where
      away : ¬ (f.cell ≡ g.cell) → In f.cell (g.cell ∷ seen) → ⊥
      away q (first k) = q k
      away q (later k) = n k

      go : Dec (f.cell ≡ g.cell) → (¬ (f.cell ≡ g.cell) → Report blank depth p (g.cell ∷ seen) (l ++ (f ∷ [])) (r₀ ++ (record { cell = f.cell; cause = y; trace = record { asks = f.asks; result = f.result } } ∷ []))) → Report blank depth p seen (g ∷ (l ++ (f ∷ []))) (record { cell = g.cell; cause = y₀; trace = record { asks = g.asks; result = g.result } } ∷ (r₀ ++ (record { cell = f.cell; cause = y; trace = record { asks = f.asks; result = f.result } } ∷ [])))
      go (yes q) ih = absurd (no_some (sym e ∙ found_here g l f.cell q))
      go (no q) ih = ran n' u' c' (ih q)
  report_run_lem {seen} (idle {f = g} {log = l} {r = r₀} n' u' r) f {y} n e u c = go (ℕ_discrete f.cell g.cell) (λ q. report_run_lem r f (λ o. away q o) (sym (found_past g l f.cell q) ∙ e) u c)
    where
      away : ¬ (f.cell ≡ g.cell) → In f.cell (g.cell ∷ seen) → ⊥
      away q (first k) = q k
      away q (later k) = n k

      go : Dec (f.cell ≡ g.cell) → (¬ (f.cell ≡ g.cell) → Report blank depth p (g.cell ∷ seen) (l ++ (f ∷ [])) (r₀ ++ (record { cell = f.cell; cause = y; trace = record { asks = f.asks; result = f.result } } ∷ []))) → Report blank depth p seen (g ∷ (l ++ (f ∷ []))) (r₀ ++ (record { cell = f.cell; cause = y; trace = record { asks = f.asks; result = f.result } } ∷ []))
      go (yes q) ih = absurd (no_some (sym e ∙ found_here g l f.cell q))
      go (no q) ih = idle n' u' (ih q)
  report_run_lem {seen} (again {f = g} {log = l} {r = r₀} o' r) f {y} n e u c = go (ℕ_discrete f.cell g.cell) (λ q. report_run_lem r f n (sym (found_past g l f.cell q) ∙ e) u c)
    where
      go : Dec (f.cell ≡ g.cell) → (¬ (f.cell ≡ g.cell) → Report blank depth p seen (l ++ (f ∷ [])) (r₀ ++ (record { cell = f.cell; cause = y; trace = record { asks = f.asks; result = f.result } } ∷ []))) → Report blank depth p seen (g ∷ (l ++ (f ∷ []))) (r₀ ++ (record { cell = f.cell; cause = y; trace = record { asks = f.asks; result = f.result } } ∷ []))
      go (yes q) ih = absurd (no_some (sym e ∙ found_here g l f.cell q))
      go (no q) ih = again o' (ih q)
