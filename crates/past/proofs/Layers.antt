-- A fault is of the engine's layer exactly if it has one of the engine's numbers.
use Rattle.std.proofs.Common.{◌≡◌, ℕ, Bool, ◌⊎◌, List, sym, refl, ◌∙◌, subst, inl, inr, arith}
use mathlib.Core.Option.{none, some}
use native.Mathlib.Decide.{ℕ_discrete}
use Rattle.interfaces.specs.Tasks.{Def, Verdict, legal, Own, OwnFaults}
use Rattle.interfaces.specs.Traces.{Pair}
use Rattle.past.specs.Afresh.{State, Finishing, Layer, engine, language, fault, values, Steps, breaks, ninth, circle, reads, descends, sinks, Afresh, worked}
use Rattle.past.specs.Past.{Lent, Run, refused, edited, defined, cleared, queried, Past, start, ◌▹◌, defs, state}
use Rattle.past.specs.Law.{Right, Lawful}
use Rattle.past.specs.Theorems.{ToldApart}
use Rattle.past.proofs.Lists.{no_some}
use Rattle.past.proofs.Since.{changed_here, changed_away}

module _ {M : Type 0} (stands : List ℕ → Verdict M) (own : (text : List ℕ) → Own (stands text)) where
  engine_language : engine ≡ language → ⊥
  engine_language e = let z : ◌≡◌ {A = ℕ} 0 1 = cc in omega arith

  of_language : {n : ℕ} → ¬ (n ≡ 16) → ¬ (n ≡ 17) → ToldApart n language
  of_language {n} a b = record { of_engine = λ e. absurd (engine_language (sym e)); to_engine = λ e. go e }
    where
      go : (n ≡ 16) ⊎ (n ≡ 17) → language ≡ engine
      go (inl e) = absurd (a e)
      go (inr e) = absurd (b e)

  module _ (s : State M) (owned : (x : ℕ) (d : Def M) → s.defs x ≡ some d → OwnFaults d) where
    steps_apart : {path : List ℕ} {c : ℕ} {d : Def M} {asked : List (Pair M)} {l : List (Finishing M)} {n m at : ℕ} {layer : Layer} {chain : List ℕ}
        → OwnFaults d → Steps s path c d asked l (fault n m at layer chain) → ToldApart n layer
    steps_apart {asked} w (breaks {n = n} {m = m} p) = let k = w (values asked) n m p in of_language k.0 k.1
    steps_apart w (ninth p _) = record { of_engine = λ e. inr refl; to_engine = λ e. refl }
    steps_apart w (circle p _ _ _) = record { of_engine = λ e. inl refl; to_engine = λ e. refl }
    steps_apart w (reads p _ _ t) = steps_apart w t
    steps_apart w (descends p _ _ _ _ t) = steps_apart w t
    steps_apart w (sinks {a = a} {e = e} p _ q _ t) = steps_apart (owned a e q) t

    afresh_apart : {path : List ℕ} {c : ℕ} {l : List (Finishing M)} {n m at : ℕ} {layer : Layer} {chain : List ℕ}
        → Afresh s path c l (fault n m at layer chain) → ToldApart n layer
    afresh_apart {c} (worked {d = d} q t) = steps_apart (owned c d q) t

  module _ (blank : M) (locks : ℕ → Bool) (depth : ℕ) where
    -- every definition is one that a text stands for
    from_text : (p : Past M) → Lawful blank locks stands depth p → (x : ℕ) (d : Def M) → defs p x ≡ some d → (text : List ℕ) × (stands text ≡ legal d)
    unfolding Lawful Right defs
    from_text (start s) h x d e = absurd (no_some e)
    from_text (p ▹ refused q said) h x d e = from_text p h.0 x d e
    from_text (p ▹ edited c v) h x d e = from_text p h.0 x d e
    from_text (p ▹ defined c text d') h x d e = go (λ k. from_text p h.0 x d k) (ℕ_discrete x c)
      where
        go : (defs p x ≡ some d → (text : List ℕ) × (stands text ≡ legal d)) → Dec (x ≡ c) → (text : List ℕ) × (stands text ≡ legal d)
        go ih (yes q) = let k = changed_here c (some d') (defs p) x q in let s = h.2.1 in (text, cc)
        go ih (no n) = ih (sym (changed_away c (some d') (defs p) x n) ∙ e)
    from_text (p ▹ cleared c) h x d e = go (λ k. from_text p h.0 x d k) (ℕ_discrete x c)
      where
        go : (defs p x ≡ some d → (text : List ℕ) × (stands text ≡ legal d)) → Dec (x ≡ c) → (text : List ℕ) × (stands text ≡ legal d)
        go ih (yes q) = absurd (no_some (sym (changed_here c none (defs p) x q) ∙ e))
        go ih (no n) = ih (sym (changed_away c none (defs p) x n) ∙ e)
    from_text (p ▹ queried c lent l o r) h x d e = from_text p h.0 x d e

    pub layer_apart : (p : Past M) (c : ℕ) (lent : Lent) (l : List (Finishing M)) (n m at : ℕ) (layer : Layer) (chain : List ℕ) (r : List (Run M))
        → Lawful blank locks stands depth (p ▹ queried c lent l (fault n m at layer chain) r) → ToldApart n layer
    unfolding Lawful Right
    layer_apart p c lent l n m at layer chain r h =
        afresh_apart (state blank p) (λ x d e. let k = from_text p h.0 x d e in subst (λ z. Own z) k.1 (own k.0)) h.2.1
