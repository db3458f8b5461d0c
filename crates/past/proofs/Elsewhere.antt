-- A cell that finishes on some path finishes alike on every path that holds nothing of its log.
use Rattle.std.proofs.Common.{◌≡◌, ℕ, ◌⊎◌, List, [], ◌∷◌, ◌++◌, sym, refl, ap, ◌∙◌, subst, inl, inr}
use Rattle.interfaces.specs.Tasks.{Def}
use Rattle.interfaces.specs.Traces.{Pair}
use Rattle.past.specs.Afresh.{In, first, later, State, Finishing, Outcome, gave, Steps, finishes, breaks, ninth, circle, reads, descends, sinks, Afresh, input, worked}
use Rattle.past.proofs.Lists.{in_left, in_right, in_both, in_one}

module _ {M : Type 0} (b : State M) where
  -- what finishes below a cell is not on the path
  pub off : {path : List ℕ} {c : ℕ} {d : Def M} {x : List (Pair M)} {l : List (Finishing M)} {o : Outcome M} {f : Finishing M}
      → Steps b path c d x l o → In f l → (f.cell ≡ c) ⊎ ¬ In f.cell path
  off (finishes p) (first e) = inl (ap (λ z. z.cell) e)
  off (finishes p) (later i) = elim i [ ]
  off (breaks p) i = elim i [ ]
  off (ninth p _) i = elim i [ ]
  off (circle p _ _ _) i = elim i [ ]
  off (reads p _ _ t) i = off t i
  off {path} {c} {f} (descends {a = a} {below = below} {log = log} p _ s n t t') i = go (λ j. off t j) (λ j. off t' j) (in_both below i)
    where
      up : (f.cell ≡ a) ⊎ ¬ In f.cell (path ++ (a ∷ [])) → (f.cell ≡ c) ⊎ ¬ In f.cell path
      up (inl e) = inr (λ k. n (subst (λ z. In z path) e k))
      up (inr m) = inr (λ k. m (in_left (a ∷ []) k))

      go : (In f below → (f.cell ≡ a) ⊎ ¬ In f.cell (path ++ (a ∷ []))) → (In f log → (f.cell ≡ c) ⊎ ¬ In f.cell path) → In f below ⊎ In f log → (f.cell ≡ c) ⊎ ¬ In f.cell path
      go h k (inl j) = up (h j)
      go h k (inr j) = k j
  off {path} {c} {f} (sinks {a = a} p _ s n t) i = up (off t i)
    where
      up : (f.cell ≡ a) ⊎ ¬ In f.cell (path ++ (a ∷ [])) → (f.cell ≡ c) ⊎ ¬ In f.cell path
      up (inl e) = inr (λ k. n (subst (λ z. In z path) e k))
      up (inr m) = inr (λ k. m (in_left (a ∷ []) k))

  pub own : {path : List ℕ} {c : ℕ} {d : Def M} {x : List (Pair M)} {l : List (Finishing M)} {v : M} → Steps b path c d x l (gave v) → (f : Finishing M) × In f l × (f.cell ≡ c)
  own (finishes p) = (_, first refl, refl)
  own (reads _ _ _ t) = own t
  own (descends {below = below} _ _ _ _ _ t') = let r = own t' in (r.0, in_right below r.1, r.2)

  pub retraced : {path : List ℕ} {c : ℕ} {d : Def M} {x : List (Pair M)} {l : List (Finishing M)} {v : M} → Steps b path c d x l (gave v)
      → In c path → (path' : List ℕ) → ((f : Finishing M) → In f l → ¬ (f.cell ≡ c) → ¬ In f.cell path') → Steps b path' c d x l (gave v)
  retraced (finishes p) oc path' h = finishes p
  retraced (reads p s u t) oc path' h = reads p s u (retraced t oc path' h)
  retraced {path} {c} (descends {a = a} {below = below} {log = log} p s u n t t') oc path' h =
      descends p s u clear_a (retraced t (in_right path (first refl)) (path' ++ (a ∷ [])) under) (retraced t' oc path' (λ f i. h f (in_right below i)))
    where
      a≢c : ¬ (a ≡ c)
      a≢c e = n (subst (λ z. In z path) (sym e) oc)

      clear_a : ¬ In a path'
      clear_a k = let r = own t in h r.0 (in_left log r.1) (λ e. a≢c (sym r.2 ∙ e)) (subst (λ z. In z path') (sym r.2) k)

      under : (f : Finishing M) → In f below → ¬ (f.cell ≡ a) → ¬ In f.cell (path' ++ (a ∷ []))
      under f i m k = go (off t i) (in_both path' k)
        where
          go : (f.cell ≡ a) ⊎ ¬ In f.cell (path ++ (a ∷ [])) → In f.cell path' ⊎ In f.cell (a ∷ []) → ⊥
          go (inl e) _ = m e
          go (inr q) (inl j) = h f (in_left log i) (λ e. q (in_left (a ∷ []) (subst (λ z. In z path) (sym e) oc))) j
          go (inr q) (inr j) = m (in_one j)

  pub elsewhere : {path : List ℕ} {c : ℕ} {l : List (Finishing M)} {v : M} → Afresh b path c l (gave v)
      → (path' : List ℕ) → ((f : Finishing M) → In f l → ¬ In f.cell path') → Afresh b path' c l (gave v)
  elsewhere (input s) path' h = input s
  elsewhere {path} {c} {l} (worked s t) path' h = worked s (retraced t (in_right path (first refl)) (path' ++ (c ∷ [])) under)
    where
      under : (f : Finishing M) → In f l → ¬ (f.cell ≡ c) → ¬ In f.cell (path' ++ (c ∷ []))
      under f i m k = go (in_both path' k)
        where
          go : In f.cell path' ⊎ In f.cell (c ∷ []) → ⊥
          go (inl j) = h f i j
          go (inr j) = m (in_one j)
