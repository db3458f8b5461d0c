-- There is one outcome.
use Rattle.std.proofs.Common.{◌≡◌, ℕ, ◌<◌, ◌≤◌, List, length, sym, refl, ap, subst, arith}
use mathlib.Core.Option.{none, some}
use Rattle.interfaces.specs.Cells.{ask_limit}
use Rattle.interfaces.specs.Tasks.{asks, gives, faults, Def}
use Rattle.interfaces.specs.Traces.{Pair}
use Rattle.past.specs.Afresh.{In, State, Finishing, Layer, Outcome, gave, fault, values, Steps, finishes, breaks, ninth, circle, reads, descends, sinks, Afresh, input, worked}

-- no step is of two kinds, and none asks for two cells
pub ask_give : {M : Type 0} {d d' : Def M} {x x' : List (Pair M)} {a : ℕ} {v : M} → d ≡ d' → x ≡ x' → d (values x) ≡ asks a → d' (values x') ≡ gives v → ⊥
ask_give {x} {x'} f g p q = let h = ap values g in let z : ◌≡◌ {A = ℕ} 0 1 = cc in omega arith

pub ask_fail : {M : Type 0} {d d' : Def M} {x x' : List (Pair M)} {a n m : ℕ} → d ≡ d' → x ≡ x' → d (values x) ≡ asks a → d' (values x') ≡ faults n m → ⊥
ask_fail f g p q = let h = ap values g in let z : ◌≡◌ {A = ℕ} 0 1 = cc in omega arith

pub give_fail : {M : Type 0} {d d' : Def M} {x x' : List (Pair M)} {v : M} {n m : ℕ} → d ≡ d' → x ≡ x' → d (values x) ≡ gives v → d' (values x') ≡ faults n m → ⊥
give_fail f g p q = let h = ap values g in let z : ◌≡◌ {A = ℕ} 0 1 = cc in omega arith

pub one_ask : {M : Type 0} {d d' : Def M} {x x' : List (Pair M)} {a a' : ℕ} → d ≡ d' → x ≡ x' → d (values x) ≡ asks a → d' (values x') ≡ asks a' → a ≡ a'
one_ask f g p q = let h = ap values g in cc

pub one_give : {M : Type 0} {d d' : Def M} {x x' : List (Pair M)} {v v' : M} → d ≡ d' → x ≡ x' → d (values x) ≡ gives v → d' (values x') ≡ gives v' → v ≡ v'
one_give f g p q = let h = ap values g in cc

module _ {M : Type 0} (b : State M) where
  pub none_some : {a a' : ℕ} {e : Def M} → a ≡ a' → b.defs a ≡ none → b.defs a' ≡ some e → ⊥
  none_some g p q = let z : ◌≡◌ {A = ℕ} 0 1 = cc in omega arith

  pub one_def : {a a' : ℕ} {e e' : Def M} → a ≡ a' → b.defs a ≡ some e → b.defs a' ≡ some e' → e ≡ e'
  one_def g p q = cc

  -- a cell that finishes on two paths finishes alike
  pub alike : {path path' : List ℕ} {c c' : ℕ} {d d' : Def M} {x x' : List (Pair M)} {l l' : List (Finishing M)} {v v' : M}
      → c ≡ c' → d ≡ d' → x ≡ x'
      → Steps b path c d x l (gave v) → Steps b path' c' d' x' l' (gave v') → (l ≡ l') × (v ≡ v')
  alike f g h (finishes p) (finishes q) = let k = one_give g h p q in (cc, k)
  alike f g h (finishes p) (reads q _ _ _) = absurd (ask_give (sym g) (sym h) q p)
  alike f g h (finishes p) (descends q _ _ _ _ _) = absurd (ask_give (sym g) (sym h) q p)
  alike f g h (reads p _ _ _) (finishes q) = absurd (ask_give g h p q)
  alike f g h (reads p _ _ t) (reads q _ _ u) = let k = one_ask g h p q in alike f g (cc) t u
  alike f g h (reads p _ s _) (descends q _ s' _ _ _) = absurd (none_some (one_ask g h p q) s s')
  alike f g h (descends p _ _ _ _ _) (finishes q) = absurd (ask_give g h p q)
  alike f g h (descends p _ s _ _ _) (reads q _ s' _) = absurd (none_some (sym (one_ask g h p q)) s' s)
  alike f g h (descends p _ s _ t t') (descends q _ s' _ u u') =
      let k = one_ask g h p q in
      let r = alike k (one_def k s s') refl t u in
      let r₁ = r.1 in
      let r' = alike f g (cc) t' u' in
      (cc, r'.1)

  gave_fault : {v : M} {n m c : ℕ} {y : Layer} {l : List ℕ} → gave v ≡ fault n m c y l → ⊥
  gave_fault p = let z : ◌≡◌ {A = ℕ} 0 1 = cc in omega arith

  too_long : {x x' : List (Pair M)} → x ≡ x' → ask_limit ≤ length x → length x' < ask_limit → ⊥
  too_long h w w' = let k = ap length h in omega arith

  on : {a a' : ℕ} {p p' : List ℕ} → p ≡ p' → a ≡ a' → In a p → In a' p'
  on {a} {a'} {p} {p'} e k i = subst (λ z. In a' z) e (subst (λ z. In z p) k i)

  -- there is one outcome, and one log
  pub alone : {path path' : List ℕ} {c c' : ℕ} {d d' : Def M} {x x' : List (Pair M)} {l l' : List (Finishing M)} {o o' : Outcome M}
      → path ≡ path' → c ≡ c' → d ≡ d' → x ≡ x'
      → Steps b path c d x l o → Steps b path' c' d' x' l' o' → (l ≡ l') × (o ≡ o')
  alone e f g h (finishes p) (finishes q) = let k = one_give g h p q in (cc, cc)
  alone e f g h (finishes p) (breaks q) = absurd (give_fail g h p q)
  alone e f g h (finishes p) (ninth q _) = absurd (ask_give (sym g) (sym h) q p)
  alone e f g h (finishes p) (circle q _ _ _) = absurd (ask_give (sym g) (sym h) q p)
  alone e f g h (finishes p) (reads q _ _ _) = absurd (ask_give (sym g) (sym h) q p)
  alone e f g h (finishes p) (descends q _ _ _ _ _) = absurd (ask_give (sym g) (sym h) q p)
  alone e f g h (finishes p) (sinks q _ _ _ _) = absurd (ask_give (sym g) (sym h) q p)
  alone e f g h (breaks p) (finishes q) = absurd (give_fail (sym g) (sym h) q p)
  alone e f g h (breaks p) (breaks q) = let k = ap values h in (refl, cc)
  alone e f g h (breaks p) (ninth q _) = absurd (ask_fail (sym g) (sym h) q p)
  alone e f g h (breaks p) (circle q _ _ _) = absurd (ask_fail (sym g) (sym h) q p)
  alone e f g h (breaks p) (reads q _ _ _) = absurd (ask_fail (sym g) (sym h) q p)
  alone e f g h (breaks p) (descends q _ _ _ _ _) = absurd (ask_fail (sym g) (sym h) q p)
  alone e f g h (breaks p) (sinks q _ _ _ _) = absurd (ask_fail (sym g) (sym h) q p)
  alone e f g h (ninth p _) (finishes q) = absurd (ask_give g h p q)
  alone e f g h (ninth p _) (breaks q) = absurd (ask_fail g h p q)
  alone e f g h (ninth p _) (ninth q _) = let k = one_ask g h p q in (refl, cc)
  alone e f g h (ninth p w) (circle q w' _ _) = absurd (too_long h w w')
  alone e f g h (ninth p w) (reads q w' _ _) = absurd (too_long h w w')
  alone e f g h (ninth p w) (descends q w' _ _ _ _) = absurd (too_long h w w')
  alone e f g h (ninth p w) (sinks q w' _ _ _) = absurd (too_long h w w')
  alone e f g h (circle p _ _ _) (finishes q) = absurd (ask_give g h p q)
  alone e f g h (circle p _ _ _) (breaks q) = absurd (ask_fail g h p q)
  alone e f g h (circle p w _ _) (ninth q w') = absurd (too_long (sym h) w' w)
  alone e f g h (circle p _ _ _) (circle q _ _ _) = let k = one_ask g h p q in (refl, cc)
  alone e f g h (circle p _ s _) (reads q _ s' _) = absurd (none_some (sym (one_ask g h p q)) s' s)
  alone e f g h (circle p _ _ i) (descends q _ _ i' _ _) = absurd (i' (on e (one_ask g h p q) i))
  alone e f g h (circle p _ _ i) (sinks q _ _ i' _) = absurd (i' (on e (one_ask g h p q) i))
  alone e f g h (reads p _ _ _) (finishes q) = absurd (ask_give g h p q)
  alone e f g h (reads p _ _ _) (breaks q) = absurd (ask_fail g h p q)
  alone e f g h (reads p w _ _) (ninth q w') = absurd (too_long (sym h) w' w)
  alone e f g h (reads p _ s _) (circle q _ s' _) = absurd (none_some (one_ask g h p q) s s')
  alone e f g h (reads p _ _ t) (reads q _ _ u) = let k = one_ask g h p q in alone e f g (cc) t u
  alone e f g h (reads p _ s _) (descends q _ s' _ _ _) = absurd (none_some (one_ask g h p q) s s')
  alone e f g h (reads p _ s _) (sinks q _ s' _ _) = absurd (none_some (one_ask g h p q) s s')
  alone e f g h (descends p _ _ _ _ _) (finishes q) = absurd (ask_give g h p q)
  alone e f g h (descends p _ _ _ _ _) (breaks q) = absurd (ask_fail g h p q)
  alone e f g h (descends p w _ _ _ _) (ninth q w') = absurd (too_long (sym h) w' w)
  alone e f g h (descends p _ _ i _ _) (circle q _ _ i') = absurd (i (on (sym e) (sym (one_ask g h p q)) i'))
  alone e f g h (descends p _ s _ _ _) (reads q _ s' _) = absurd (none_some (sym (one_ask g h p q)) s' s)
  alone e f g h (descends p _ s _ t t') (descends q _ s' _ u u') = let k = one_ask g h p q in
      let r = alone (cc) k (one_def k s s') refl t u in
      let r₀ = r.0 in let r₁ = r.1 in
      let r' = alone e f g (cc) t' u' in
      let r₂ = r'.0 in (cc, r'.1)
  alone e f g h (descends p _ s _ t _) (sinks q _ s' _ u) = let k = one_ask g h p q in
      let r = alone (cc) k (one_def k s s') refl t u in
      absurd (gave_fault r.1)
  alone e f g h (sinks p _ _ _ _) (finishes q) = absurd (ask_give g h p q)
  alone e f g h (sinks p _ _ _ _) (breaks q) = absurd (ask_fail g h p q)
  alone e f g h (sinks p w _ _ _) (ninth q w') = absurd (too_long (sym h) w' w)
  alone e f g h (sinks p _ _ i _) (circle q _ _ i') = absurd (i (on (sym e) (sym (one_ask g h p q)) i'))
  alone e f g h (sinks p _ s _ _) (reads q _ s' _) = absurd (none_some (sym (one_ask g h p q)) s' s)
  alone e f g h (sinks p _ s _ t) (descends q _ s' _ u _) = let k = one_ask g h p q in
      let r = alone (cc) k (one_def k s s') refl t u in
      absurd (gave_fault (sym r.1))
  alone e f g h (sinks p _ s _ t) (sinks q _ s' _ u) = let k = one_ask g h p q in
      let r = alone (cc) k (one_def k s s') refl t u in
      r

  pub afresh_alone : {path : List ℕ} {c : ℕ} {l l' : List (Finishing M)} {o o' : Outcome M}
      → Afresh b path c l o → Afresh b path c l' o' → (l ≡ l') × (o ≡ o')
  afresh_alone (input p) (input q) = (refl, refl)
  afresh_alone (input p) (worked q _) = absurd (none_some refl p q)
  afresh_alone (worked p _) (input q) = absurd (none_some refl q p)
  afresh_alone (worked p t) (worked q u) = alone refl refl (one_def refl p q) refl t u
