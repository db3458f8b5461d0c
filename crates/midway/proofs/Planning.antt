-- The plan that a rebuilder's function gives is what the traces say, newest first.
use Rattle.std.proofs.Common.{◌≡◌, ℕ, Bool, true, false, List, [], ◌∷◌, ◌++◌, map, length, sym, refl, ap, ◌∙◌, subst, append-nil, arith}
use mathlib.Core.Option.{Option, none, some}
use native.Mathlib.Decide.{ℕ_discrete}
use Rattle.std.proofs.lemmas.Bool.{eq-eqb, ne_eqb}
use Rattle.interfaces.specs.declared.cell.Cell.{Cell}
use Rattle.interfaces.specs.declared.step.Plan.{Plan}
use Rattle.interfaces.specs.declared.step.Plan.TheVariants.{Run, Keep, Next}
use Rattle.interfaces.specs.Traces.{Pair, Trace, Planned, keeps, next, plan_means, pairs_of, after, exact, onward, chosen, plan, plan_for}
use Rattle.past.specs.Afresh.{In, first, later}
use Rattle.past.proofs.Lists.{in_right}
use Rattle.midway.specs.Planning.{Begins, Plans, to_run, to_keep, to_ask, plain_pair, plain_trace, plain_plan}

module _ {V : Type 0} (canon : V → V) (alike : V → V → Bool)
    (sound : (x y : V) → alike x y ≡ true → canon x ≡ canon y) (whole : (x y : V) → canon x ≡ canon y → alike x y ≡ true) where
  -- pairs in normal form
  abbrev pub Plain : List (Pair V) → Type 0
  Plain ps = (q : Pair V) → In q ps → canon q.value ≡ q.value

  same_pair : (p q : Pair V) → canon p.value ≡ p.value → p.cell ≡ q.cell → alike p.value q.value ≡ true → plain_pair canon q ≡ p
  same_pair p q n e a = λ i. record { cell = sym e i; value = (sym (sound p.value q.value a) ∙ n) i }

  pair_same : (p q : Pair V) → canon p.value ≡ p.value → plain_pair canon q ≡ p → (p.cell ≡ q.cell) × (alike p.value q.value ≡ true)
  pair_same p q n e = (sym (ap (λ z. z.cell) e), whole p.value q.value (n ∙ sym (ap (λ z. z.value) e)))

  head : {a b : Pair V} {l m : List (Pair V)} → ◌≡◌ {A = List (Pair V)} (a ∷ l) (b ∷ m) → a ≡ b
  head e = cc

  tail : {a b : Pair V} {l m : List (Pair V)} → ◌≡◌ {A = List (Pair V)} (a ∷ l) (b ∷ m) → l ≡ m
  tail e = cc

  -- the rest after the pairs, where the asks begin with them
  after_some : (ps asks rest : List (Pair V)) → Plain ps → after alike ps asks ≡ some rest → map (plain_pair canon) asks ≡ ps ++ map (plain_pair canon) rest
  after_some [] asks rest n e = let z : asks ≡ rest = cc in ap (map (plain_pair canon)) z
  after_some (p ∷ ps) [] rest n e = let z : ◌≡◌ {A = ℕ} 0 1 = cc in absurd (omega arith)
  after_some (p ∷ ps) (q ∷ qs) rest n e = go (ℕ_discrete p.cell q.cell) (alike p.value q.value) refl (λ k. after_some ps qs rest (λ y i. n y (later i)) k)
    where
      go : Dec (p.cell ≡ q.cell) → (b : Bool) → alike p.value q.value ≡ b → (after alike ps qs ≡ some rest → map (plain_pair canon) qs ≡ ps ++ map (plain_pair canon) rest)
          → plain_pair canon q ∷ map (plain_pair canon) qs ≡ (p ∷ ps) ++ map (plain_pair canon) rest
      go (yes c) true a ih =
          let k : after alike ps qs ≡ some rest = simp (a, eq-eqb p.cell q.cell c) at e in
          ap (λ z. z ∷ map (plain_pair canon) qs) (same_pair p q (n p (first refl)) c a) ∙ ap (λ z. p ∷ z) (ih k)
      go (yes c) false a ih =
          let k : none ≡ some rest = simp (a, eq-eqb p.cell q.cell c) at e in
          let z : ◌≡◌ {A = ℕ} 0 1 = cc in absurd (omega arith)
      go (no m) b a ih =
          let k : none ≡ some rest = simp (ne_eqb p.cell q.cell m) at e in
          let z : ◌≡◌ {A = ℕ} 0 1 = cc in absurd (omega arith)

  after_none : (ps asks : List (Pair V)) → Plain ps → after alike ps asks ≡ none → (rest : List (Pair V)) → ¬ (map (plain_pair canon) asks ≡ ps ++ rest)
  after_none [] asks n e rest k = let z : ◌≡◌ {A = ℕ} 0 1 = cc in absurd (omega arith)
  after_none (p ∷ ps) [] n e rest k = let z : ◌≡◌ {A = ℕ} 0 1 = cc in absurd (omega arith)
  after_none (p ∷ ps) (q ∷ qs) n e rest k =
      let s = pair_same p q (n p (first refl)) (head k) in
      after_none ps qs (λ y i. n y (later i)) (simp (eq-eqb p.cell q.cell s.0, s.1) at e) rest (tail k)

  append_self : (ps rest : List (Pair V)) → ps ++ rest ≡ ps → rest ≡ []
  append_self [] rest e = e
  append_self (p ∷ ps) rest e = append_self ps rest (tail e)

  -- a trace among the plain ones
  module _ (ps : List (Pair V)) (n : Plain ps) where
    record Kept (ts : List (Trace V)) (v : V) : Type 0 where
      t : Trace V
      newer : List (Trace V)
      older : List (Trace V)
      is : map (plain_trace canon) ts ≡ newer ++ (t ∷ older)
      exactly : t.asks ≡ ps
      newest : (u : Trace V) → In u newer → ¬ (u.asks ≡ ps)
      result_is : t.result ≡ canon v

    exact_some : (ts : List (Trace V)) (v : V) → exact alike ts ps ≡ some v → Kept ts v
    exact_some [] v e = let z : ◌≡◌ {A = ℕ} 0 1 = cc in absurd (omega arith)
    exact_some (t ∷ ts) v e = go (after alike ps t.asks) refl (λ k. exact_some ts v k)
      where
        deeper : ¬ (map (plain_pair canon) t.asks ≡ ps) → Kept ts v → Kept (t ∷ ts) v
        deeper m k = record {
          t = k.t;
          newer = plain_trace canon t ∷ k.newer;
          older = k.older;
          is = ap (λ z. plain_trace canon t ∷ z) k.is;
          exactly = k.exactly;
          result_is = k.result_is;
          newest = λ u i. pick u i;
        }
          where
            pick : (u : Trace V) → In u (plain_trace canon t ∷ k.newer) → ¬ (u.asks ≡ ps)
            pick u (first q) r = m (sym (ap (λ z. z.asks) q) ∙ r)
            pick u (later i) r = k.newest u i r

        go : (z : Option (List (Pair V))) → after alike ps t.asks ≡ z → (exact alike ts ps ≡ some v → Kept ts v) → Kept (t ∷ ts) v
        go none a ih = deeper (λ q. after_none ps t.asks n a [] (q ∙ sym (append-nil ps))) (ih (simp a at e))
        go (some []) a ih =
            let k : some t.result ≡ some v = simp a at e in
            let r : t.result ≡ v = cc in
            record {
              t = plain_trace canon t;
              newer = [];
              older = map (plain_trace canon) ts;
              is = refl;
              newest = λ u i. elim i [ ];
              result_is = ap canon r;
              exactly = after_some ps t.asks [] n a ∙ append-nil ps;
            }
        go (some (q ∷ qs)) a ih = deeper (λ k. two (append_self ps _ (sym (after_some ps t.asks (q ∷ qs) n a) ∙ k))) (ih (simp a at e))
          where
            two : ◌≡◌ {A = List (Pair V)} (plain_pair canon q ∷ map (plain_pair canon) qs) [] → ⊥
            two k = let z : ◌≡◌ {A = ℕ} 0 1 = cc in omega arith

    exact_none : (ts : List (Trace V)) → exact alike ts ps ≡ none → (u : Trace V) → In u (map (plain_trace canon) ts) → ¬ (u.asks ≡ ps)
    exact_none [] e u i k = elim i [ ]
    exact_none (t ∷ ts) e u i k = go (after alike ps t.asks) refl (λ q j. exact_none ts q u j k) i
      where
        go : (z : Option (List (Pair V))) → after alike ps t.asks ≡ z → (exact alike ts ps ≡ none → In u (map (plain_trace canon) ts) → ⊥) → In u (plain_trace canon t ∷ map (plain_trace canon) ts) → ⊥
        go none a ih (first q) = after_none ps t.asks n a [] (sym (ap (λ z. z.asks) q) ∙ k ∙ sym (append-nil ps))
        go none a ih (later j) = ih (simp a at e) j
        go (some []) a ih j =
            let q : some t.result ≡ none = simp a at e in
            let z : ◌≡◌ {A = ℕ} 0 1 = cc in omega arith
        go (some (q ∷ qs)) a ih (first r) =
            let y : plain_pair canon q ∷ map (plain_pair canon) qs ≡ [] = append_self ps _ (sym (after_some ps t.asks (q ∷ qs) n a) ∙ sym (ap (λ z. z.asks) r) ∙ k) in
            let z : ◌≡◌ {A = ℕ} 0 1 = cc in omega arith
        go (some (q ∷ qs)) a ih (later j) = ih (simp a at e) j

    record Asked (ts : List (Trace V)) (c : ℕ) : Type 0 where
      t : Trace V
      newer : List (Trace V)
      older : List (Trace V)
      q : Pair V
      rest : List (Pair V)
      is : map (plain_trace canon) ts ≡ newer ++ (t ∷ older)
      goes_on : t.asks ≡ ps ++ (q ∷ rest)
      newest : (u : Trace V) → In u newer → ¬ Begins ps u
      cell_is : q.cell ≡ c

    onward_some : (ts : List (Trace V)) (c : ℕ) → exact alike ts ps ≡ none → onward alike ts ps ≡ some c → Asked ts c
    onward_some [] c x e = let z : ◌≡◌ {A = ℕ} 0 1 = cc in absurd (omega arith)
    onward_some (t ∷ ts) c x e = go (after alike ps t.asks) refl (λ k k'. onward_some ts c k k')
      where
        go : (z : Option (List (Pair V))) → after alike ps t.asks ≡ z → (exact alike ts ps ≡ none → onward alike ts ps ≡ some c → Asked ts c) → Asked (t ∷ ts) c
        go none a ih = deeper (ih (simp a at x) (simp a at e))
          where
            deeper : Asked ts c → Asked (t ∷ ts) c
            deeper k = record {
              t = k.t;
              newer = plain_trace canon t ∷ k.newer;
              older = k.older;
              q = k.q;
              rest = k.rest;
              is = ap (λ z. plain_trace canon t ∷ z) k.is;
              goes_on = k.goes_on;
              cell_is = k.cell_is;
              newest = λ u i. pick u i;
            }
              where
                pick : (u : Trace V) → In u (plain_trace canon t ∷ k.newer) → ¬ Begins ps u
                pick u (first y) r = after_none ps t.asks n a r.rest (sym (ap (λ z. z.asks) y) ∙ r.is)
                pick u (later i) r = k.newest u i r
        go (some []) a ih =
            let k : some t.result ≡ none = simp a at x in
            let z : ◌≡◌ {A = ℕ} 0 1 = cc in absurd (omega arith)
        go (some (q ∷ qs)) a ih =
            let k : some q.cell ≡ some c = simp a at e in
            let r : q.cell ≡ c = cc in
            record {
              t = plain_trace canon t;
              newer = [];
              older = map (plain_trace canon) ts;
              q = plain_pair canon q;
              rest = map (plain_pair canon) qs;
              is = refl;
              goes_on = after_some ps t.asks (q ∷ qs) n a;
              newest = λ u i. elim i [ ];
              cell_is = r;
            }

    onward_none : (ts : List (Trace V)) → exact alike ts ps ≡ none → onward alike ts ps ≡ none → (u : Trace V) → In u (map (plain_trace canon) ts) → ¬ Begins ps u
    onward_none [] x e u i r = elim i [ ]
    onward_none (t ∷ ts) x e u i r = go (after alike ps t.asks) refl (λ k k' j. onward_none ts k k' u j r) i
      where
        go : (z : Option (List (Pair V))) → after alike ps t.asks ≡ z → (exact alike ts ps ≡ none → onward alike ts ps ≡ none → In u (map (plain_trace canon) ts) → ⊥) → In u (plain_trace canon t ∷ map (plain_trace canon) ts) → ⊥
        go none a ih (first y) = after_none ps t.asks n a r.rest (sym (ap (λ z. z.asks) y) ∙ r.is)
        go none a ih (later j) = ih (simp a at x) (simp a at e) j
        go (some []) a ih j =
            let k : some t.result ≡ none = simp a at x in
            let z : ◌≡◌ {A = ℕ} 0 1 = cc in omega arith
        go (some (q ∷ qs)) a ih j =
            let k : some q.cell ≡ none = simp a at e in
            let z : ◌≡◌ {A = ℕ} 0 1 = cc in omega arith

    -- the plan is what the plain traces say
    pub planned : (ts : List (Trace V)) → Plans (map (plain_trace canon) ts) ps (plain_plan canon (plan alike ts ps))
    planned ts = go (exact alike ts ps) refl (onward alike ts ps) refl
      where
        keep : {v : V} → Kept ts v → Plans (map (plain_trace canon) ts) ps (keeps (canon v))
        keep k = subst (λ z. Plans (map (plain_trace canon) ts) ps (keeps z)) k.result_is (to_keep k.t k.newer k.older k.is k.exactly k.newest)

        ask : {c : ℕ} → exact alike ts ps ≡ none → Asked ts c → Plans (map (plain_trace canon) ts) ps (next c)
        ask x k = subst (λ z. Plans (map (plain_trace canon) ts) ps (next z)) k.cell_is (to_ask k.t k.newer k.older k.q k.rest (exact_none ts x) k.is k.goes_on k.newest)

        go : (z : Option V) → exact alike ts ps ≡ z → (y : Option ℕ) → onward alike ts ps ≡ y → Plans (map (plain_trace canon) ts) ps (plain_plan canon (chosen alike z y))
        go (some v) x y e = keep (exact_some ts v x)
        go none x none e = to_run (onward_none ts x e)
        go none x (some c) e = ask x (onward_some ts c x e)

-- the plan that a rebuilder answers, by what its traces say in normal form
module _ {V : Type 0} (canon : V → V) (alike : V → V → Bool)
    (sound : (x y : V) → alike x y ≡ true → canon x ≡ canon y) (whole : (x y : V) → canon x ≡ canon y → alike x y ≡ true) (steady : (x : V) → canon (canon x) ≡ canon x) where
  plain_pairs : (cs : List Cell) (vs : List V) → Plain canon alike sound whole (pairs_of canon cs vs)
  plain_pairs [] vs q i = elim i [ ]
  plain_pairs (c ∷ cs) [] q i = elim i [ ]
  plain_pairs (c ∷ cs) (v ∷ vs) q (first e) = ap (λ z. canon z.value) e ∙ steady v ∙ sym (ap (λ z. z.value) e)
  plain_pairs (c ∷ cs) (v ∷ vs) q (later i) = plain_pairs cs vs q i

  plain_answer : (r : Plan V) → plain_plan canon (plan_means canon r) ≡ plan_means canon r
  plain_answer Run = refl
  plain_answer (Keep v) = ap keeps (steady v)
  plain_answer (Next c) = refl

  pub planned_for : (ts : List (Trace V)) (cs : List Cell) (vs : List V) (r : Plan V) → length cs ≡ length vs → plan_means canon r ≡ plan_for canon alike ts cs vs
      → Plans (map (plain_trace canon) ts) (pairs_of canon cs vs) (plan_means canon r)
  planned_for ts cs vs r n e =
      let k : plan_means canon r ≡ plan alike ts (pairs_of canon cs vs) = simp (eq-eqb (length cs) (length vs) n) at e in
      subst (λ z. Plans (map (plain_trace canon) ts) (pairs_of canon cs vs) z) (ap (plain_plan canon) (sym k) ∙ plain_answer r) (planned canon alike sound whole (pairs_of canon cs vs) (plain_pairs cs vs) ts)

-- the traces say one thing only
module _ {M : Type 0} where
  first_one : (P : Trace M → Type 0) (newer newer' older older' : List (Trace M)) {t t' : Trace M} → newer ++ (t ∷ older) ≡ newer' ++ (t' ∷ older')
      → P t → P t' → ((u : Trace M) → In u newer → ¬ P u) → ((u : Trace M) → In u newer' → ¬ P u) → t ≡ t'
  first_one P [] [] o o' e y y' k k' = cc
  first_one P [] (u ∷ newer') o o' {t = t} e y y' k k' = let z : t ≡ u = cc in absurd (k' u (first refl) (subst P z y))
  first_one P (u ∷ newer) [] o o' {t' = t'} e y y' k k' = let z : t' ≡ u = cc in absurd (k u (first refl) (subst P z y'))
  first_one P (u ∷ newer) (u' ∷ newer') o o' e y y' k k' = first_one P newer newer' o o' (cc) y y' (λ v i. k v (later i)) (λ v i. k' v (later i))

  in_split : (t : Trace M) (newer older : List (Trace M)) {ts : List (Trace M)} → ts ≡ newer ++ (t ∷ older) → In t ts
  in_split t newer older e = subst (λ z. In t z) (sym e) (in_right newer (first refl))

  same_rest : (ps r r' : List (Pair M)) {q q' : Pair M} → ps ++ (q ∷ r) ≡ ps ++ (q' ∷ r') → q ≡ q'
  same_rest [] r r' e = cc
  same_rest (p ∷ ps) r r' e = same_rest ps r r' (cc)

  begins_of : {ps : List (Pair M)} (t : Trace M) (rest : List (Pair M)) → t.asks ≡ ps ++ rest → Begins ps t
  begins_of t rest e = record { rest = rest; is = e }

  pub plans_one : (ts : List (Trace M)) (ps : List (Pair M)) {z z' : Planned M} → Plans ts ps z → Plans ts ps z' → z ≡ z'
  plans_one ts ps (to_run k) (to_run k') = refl
  plans_one ts ps (to_run k) (to_keep t n o e x _) = absurd (k t (in_split t n o e) (begins_of t [] (x ∙ sym (append-nil ps))))
  plans_one ts ps (to_run k) (to_ask t n o q r _ e x _) = absurd (k t (in_split t n o e) (begins_of t (q ∷ r) x))
  plans_one ts ps (to_keep t n o e x _) (to_run k) = absurd (k t (in_split t n o e) (begins_of t [] (x ∙ sym (append-nil ps))))
  plans_one ts ps (to_keep t n o e x k) (to_keep t' n' o' e' x' k') = ap (λ z. keeps z.result) (first_one (λ u. u.asks ≡ ps) n n' o o' (sym e ∙ e') x x' k k')
  plans_one ts ps (to_keep t n o e x k) (to_ask t' n' o' q r m _ _ _) = absurd (m t (in_split t n o e) x)
  plans_one ts ps (to_ask t n o q r _ e x _) (to_run k) = absurd (k t (in_split t n o e) (begins_of t (q ∷ r) x))
  plans_one ts ps (to_ask t' n' o' q r m _ _ _) (to_keep t n o e x k) = absurd (m t (in_split t n o e) x)
  plans_one ts ps (to_ask t n o q r m e x k) (to_ask t' n' o' q' r' m' e' x' k') =
      let y = first_one (Begins ps) n n' o o' (sym e ∙ e') (begins_of t (q ∷ r) x) (begins_of t' (q' ∷ r') x') k k' in
      ap (λ z. next z.cell) (same_rest ps r r' (sym x ∙ ap (λ z. z.asks) y ∙ x'))

-- so the plan gives a thing exactly if the traces, in normal form, say it
pub exactly : {V : Type 0} (canon : V → V) (alike : V → V → Bool) (sound : (x y : V) → alike x y ≡ true → canon x ≡ canon y) (whole : (x y : V) → canon x ≡ canon y → alike x y ≡ true)
    (ps : List (Pair V)) (n : Plain canon alike sound whole ps) (ts : List (Trace V)) (z : Planned V) → Plans (map (plain_trace canon) ts) ps z → plain_plan canon (plan alike ts ps) ≡ z
exactly canon alike sound whole ps n ts z k = plans_one (map (plain_trace canon) ts) ps (planned canon alike sound whole ps n ts) k
