-- The walk down the asked cells finds out which cells reach `c`. Assumes nothing.
use Rattle.std.proofs.Common.{◌≡◌, ℕ, suc, ◌<◌, Bool, true, false, List, [], ◌∷◌, length, get_or, set, Some, None, Option as Maybe, sym, refl, ap, ◌∙◌, subst, arith, get_or-set_other, get_or-set_same}
use native.Mathlib.Decide.{ℕ_discrete}
use Rattle.table.specs.Marks.{Among, first, later, Leads, near, far, Shallow, shallow}
use Rattle.table.specs.Walks.{Tells, Knows, Visits, Any, itself, below, VisitsAny}

module _ (asked : ℕ → List ℕ) (c : ℕ) where
  pub any_none : (n : ℕ) {ys : List ℕ} (known : List (Maybe Bool)) → ys ≡ [] → VisitsAny asked c n ys known known false
  any_none n known e h k = (k, λ a. gone a e)
    where
      off : {y : ℕ} {ys : List ℕ} → Among y ys → ys ≡ [] → ⊥
      off {y} o e = let z = subst (λ z. Among y z) e o in elim z [ ]

      gone : {ys : List ℕ} → Any asked c ys → ys ≡ [] → ⊥
      gone (itself o) e = off o e
      gone (below o _) e = off o e

  pub any_here : (n : ℕ) {ys : List ℕ} (rest : List ℕ) (y : ℕ) (known : List (Maybe Bool)) → ys ≡ y ∷ rest → y ≡ c → VisitsAny asked c n ys known known true
  any_here n rest y known e q h k = (k, itself (subst (λ z. Among c z) (sym e) (first (sym q))))

  pub any_below : (n : ℕ) {ys : List ℕ} (rest : List ℕ) (y : ℕ) (known known' : List (Maybe Bool)) → ys ≡ y ∷ rest → Visits asked c n y known known' true → VisitsAny asked c n ys known known' true
  any_below n rest y known known' e v h k = let o = subst (λ z. Among y z) (sym e) (first refl) in let q = v (h y o) k in (q.0, below o q.1)

  tell : {P Q : Type 0} (b : Bool) → (P → Q) → (Q → P) → Tells b P → Tells b Q
  tell true f g t = f t
  tell false f g t = λ q. t (g q)

  pub any_on : (n : ℕ) {ys : List ℕ} (rest : List ℕ) (y : ℕ) (known known₁ known₂ : List (Maybe Bool)) (b : Bool) → ys ≡ y ∷ rest → ¬ (y ≡ c)
      → Visits asked c n y known known₁ false → VisitsAny asked c n rest known₁ known₂ b → VisitsAny asked c n ys known known₂ b
  any_on n {ys} rest y known known₁ known₂ b e m v a h k =
      let q = v (h y (subst (λ z. Among y z) (sym e) (first refl))) k in
      let u = a (λ z o. h z (subst (λ x. Among z x) (sym e) (later o))) q.0 in
      (u.0, tell b grow (shrink q.1) u.1)
    where
      grow : Any asked c rest → Any asked c ys
      grow (itself o) = itself (subst (λ z. Among c z) (sym e) (later o))
      grow (below {y = z} o l) = below (subst (λ x. Among z x) (sym e) (later o)) l

      shrink : ¬ Leads asked c y → Any asked c ys → Any asked c rest
      shrink w (itself o) = go (subst (λ z. Among c z) e o)
        where
          go : Among c (y ∷ rest) → Any asked c rest
          go (first q) = absurd (m (sym q))
          go (later p) = itself p
      shrink w (below {y = z} o l) = go (subst (λ x. Among z x) e o)
        where
          go : Among z (y ∷ rest) → Any asked c rest
          go (first q) = absurd (w (subst (λ x. Leads asked c x) q l))
          go (later p) = below p l

  pub visit_empty : (n x : ℕ) (known : List (Maybe Bool)) (b : Bool) → n ≡ 0 → Visits asked c n x known known b
  visit_empty n x known b e s k = absurd (out s e)
    where
      out : {n x : ℕ} → Shallow asked n x → n ≡ 0 → ⊥
      out (shallow _) e = omega (arith, e)

  open_up : {n m x : ℕ} → n ≡ suc m → Shallow asked n x → (y : ℕ) → Among y (asked x) → Shallow asked m y
  open_up {n} {m} e (shallow {n = k} h) y o = let q : k ≡ m = omega (arith, e) in subst (λ z. Shallow asked z y) q (h y o)

  leads_any : {x : ℕ} → Leads asked c x → Any asked c (asked x)
  leads_any (near o) = itself o
  leads_any (far o l) = below o l

  any_leads : {x : ℕ} → Any asked c (asked x) → Leads asked c x
  any_leads (itself o) = near o
  any_leads (below o l) = far o l

  noted : (x : ℕ) (b : Bool) (known : List (Maybe Bool)) → x < length known → Knows asked c known → Tells b (Leads asked c x) → Knows asked c (set known x (Some b))
  noted x b known h k t z b' e = go (ℕ_discrete z x)
    where
      go : Dec (z ≡ x) → Tells b' (Leads asked c z)
      go (yes q) =
          let u : get_or (set known x (Some b)) z None ≡ Some b = ap (λ y. get_or (set known x (Some b)) y None) q ∙ get_or-set_same known x (Some b) None h in
          let w : b ≡ b' = cc in
          subst (λ y. Tells b' (Leads asked c y)) (sym q) (subst (λ y. Tells y (Leads asked c x)) w t)
      go (no n) = k z b' (sym (get_or-set_other known x z (Some b) None n) ∙ e)

  pub visit_found : (n m x : ℕ) (ys : List ℕ) (known known₁ : List (Maybe Bool)) (b : Bool) → n ≡ suc m → ys ≡ asked x
      → VisitsAny asked c m ys known known₁ b → x < length known₁ → Visits asked c n x known (set known₁ x (Some b)) b
  visit_found n m x ys known known₁ b e q a h s k =
      let u = a (λ y o. open_up e s y (subst (λ z. Among y z) q o)) k in
      let l : Tells b (Leads asked c x) = tell b (λ w. any_leads (subst (λ z. Any asked c z) q w)) (λ w. subst (λ z. Any asked c z) (sym q) (leads_any w)) u.1 in
      (noted x b known₁ h u.0 l, l)
