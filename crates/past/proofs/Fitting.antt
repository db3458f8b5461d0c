-- A trace of the definition whose pairs are right is what working out afresh finds.
use Rattle.std.proofs.Common.{◌≡◌, ℕ, ◌<◌, List, [], ◌∷◌, ◌++◌, length, sym, refl, ap, ◌∙◌, subst, append_assoc, append-nil, arith, length-append}
use mathlib.Core.Option.{Option, none, some}
use Rattle.interfaces.specs.Cells.{ask_limit}
use Rattle.interfaces.specs.Tasks.{asks, gives, Def}
use Rattle.interfaces.specs.Traces.{Pair}
use Rattle.past.specs.Afresh.{In, first, later, State, Finishing, Outcome, gave, values, Steps, finishes, reads, descends, Afresh, input, worked}
use Rattle.past.proofs.Lists.{in_one, Ends, ends_right}
use Rattle.past.proofs.Alone.{ask_give, one_ask, none_some, one_def, alike}
use Rattle.past.proofs.Whole.{all_whole}
use Rattle.past.proofs.Elsewhere.{own, elsewhere}

module _ {M : Type 0} where
  -- the definition asks for the pairs of `rest` in turn, and then gives v
  pub data Follows (d : Def M) : List (Pair M) → List (Pair M) → M → Type 0 where
    done : {had : List (Pair M)} {v : M} → d (values had) ≡ gives v → Follows d had [] v
    step : {had rest : List (Pair M)} {q : Pair M} {v : M} → d (values had) ≡ asks q.cell → length had < ask_limit → Follows d (had ++ (q ∷ [])) rest v → Follows d had (q ∷ rest) v

  module _ (b : State M) where
    abbrev pub Holds : Pair M → Type 0
    Holds q = (l : List (Finishing M)) × Afresh b [] q.cell l (gave q.value)

    pub some_log : {path : List ℕ} {c : ℕ} {d : Def M} {x : List (Pair M)} {l : List (Finishing M)} {v : M} → Steps b path c d x l (gave v) → 0 < length l
    some_log (finishes p) = omega arith
    some_log (reads _ _ _ t) = some_log t
    some_log (descends {below = below} {log = log} _ _ _ _ _ t) = omega (arith, length-append below log, some_log t)

    pub right_input : {path : List ℕ} {c a : ℕ} {l : List (Finishing M)} {v : M} → a ≡ c → b.defs a ≡ none → Afresh b path c l (gave v) → (length l ≡ 0) × (b.stored a ≡ v)
    right_input e s (input _) = (refl, ap (λ z. b.stored z) e)
    right_input e s (worked s' _) = absurd (none_some b e s s')

    pair_eq : {a : ℕ} {v : M} (q : Pair M) → a ≡ q.cell → v ≡ q.value → ◌≡◌ {A = Pair M} (record { cell = a; value = v }) q
    pair_eq q e e' = λ i. record { cell = e i; value = e' i }

    pub right_defined : {path way : List ℕ} {a c : ℕ} {e : Def M} {l l' : List (Finishing M)} {v w : M} → a ≡ c → b.defs a ≡ some e → Steps b path a e [] l (gave v) → Afresh b way c l' (gave w) → (l ≡ l') × (v ≡ w)
    right_defined k s t (input s') = absurd (none_some b (sym k) s' s)
    right_defined k s t (worked s' t') = alike b k (one_def b k s s') refl t t'

    pub taken : {path : List ℕ} {c : ℕ} {e : Def M} {l : List (Finishing M)} {o : Outcome M} → b.defs c ≡ some e → Afresh b path c l o → Steps b (path ++ (c ∷ [])) c e [] l o
    taken s (input s') = absurd (none_some b refl s' s)
    taken {path} {c} {l} {o} s (worked s' t) = subst (λ z. Steps b (path ++ (c ∷ [])) c z [] l o) (one_def b refl s' s) t

    -- what finishes after the pairs has a longer log than each of them
    longer : {d d' : Def M} {had' rest : List (Pair M)} {w : M} {path : List ℕ} {c : ℕ} {had : List (Pair M)} {log : List (Finishing M)} {v : M} → d ≡ d' → had ≡ had'
        → Steps b path c d had log (gave v) → Follows d' had' rest w → ((q : Pair M) → In q rest → Holds q)
        → (q : Pair M) → In q rest → (r : Holds q) → length r.0 < length log
    longer f g t (done _) h q i r = elim i [ ]
    longer f g (finishes p) (step p' _ _) h q i r = absurd (ask_give (sym f) (sym g) p' p)
    longer f g (reads {a = a} {log = log} p s u t) (step {rest = rest} {q = q'} p' s' k) h q i r =
        go (longer f (λ z. g z ++ (e z ∷ [])) t k (λ q i. h q (later i)) q) i
      where
        a_is : a ≡ q'.cell
        a_is = one_ask f g p p'

        e : ◌≡◌ {A = Pair M} (record { cell = a; value = b.stored a }) q'
        e = pair_eq q' a_is (right_input a_is u (h q' (first refl)).1).1

        go : (In q rest → (r : Holds q) → length r.0 < length log) → In q (q' ∷ rest) → length r.0 < length log
        go ih (first z) = omega (arith, some_log t, (right_input (a_is ∙ ap (λ z. z.cell) (sym z)) u r.1).0)
        go ih (later i) = ih i r
    longer f g (descends {a = a} {v = v} {below = below} {log = log} p s u n t t') (step {rest = rest} {q = q'} p' s' k) h q i r =
        go (longer f (λ z. g z ++ (e z ∷ [])) t' k (λ q i. h q (later i)) q) i
      where
        a_is : a ≡ q'.cell
        a_is = one_ask f g p p'

        e : ◌≡◌ {A = Pair M} (record { cell = a; value = v }) q'
        e = pair_eq q' a_is (right_defined a_is u t (h q' (first refl)).1).1

        go : (In q rest → (r : Holds q) → length r.0 < length log) → In q (q' ∷ rest) → length r.0 < length (below ++ log)
        go ih (first z) = omega (arith, some_log t', length-append below log, ap length (right_defined (a_is ∙ ap (λ z. z.cell) (sym z)) u t r.1).0)
        go ih (later i) = omega (arith, length-append below log, ih i r)

    -- so a cell that follows the pairs finishes in the log of none of them
    module _ (x : ℕ) (d : Def M) (def_is : b.defs x ≡ some d) (pairs : List (Pair M)) (v : M) (whole-way : Follows d [] pairs v) (rights : (q : Pair M) → In q pairs → Holds q) where
      not_in : (q : Pair M) → In q pairs → (r : Holds q) → (f : Finishing M) → In f r.0 → ¬ (f.cell ≡ x)
      not_in q i r f j e =
          let w = all_whole b r.1 j in
          let k : w.c ≡ x = sym w.cell_is ∙ e in
          omega (arith, w.short, longer (one_def b k w.def_is def_is) refl w.steps whole-way rights q i r)

      pub record Done (had : List (Pair M)) : Type 0 where
        pub log : List (Finishing M)
        pub steps : Steps b (x ∷ []) x d had log (gave v)
        pub ends : Ends log (record { cell = x; asks = pairs; result = v })

      follow : {had rest : List (Pair M)} → Follows d had rest v → had ++ rest ≡ pairs → ((q : Pair M) → In q rest → In q pairs) → Done had
      follow {had} (done p) e h = record { log = _; steps = finishes p; ends = record { pre = []; is = ap (λ z. record { cell = x; asks = z; result = v } ∷ []) (sym (append-nil had) ∙ e) } }
      follow {had} (step {rest = rest} {q = q} p s k) e h = go (follow k (append_assoc had (q ∷ []) rest ∙ e) (λ q i. h q (later i))) (rights q (h q (first refl))) (b.defs q.cell) refl
        where
          go : Done (had ++ (q ∷ [])) → Holds q → (o : Option (Def M)) → b.defs q.cell ≡ o → Done had
          go w r none u = record {
            log = w.log;
            steps = reads p s u (subst (λ z. Steps b (x ∷ []) x d (had ++ (z ∷ [])) w.log (gave v)) (sym (pair_eq q refl (right_input refl u r.1).1)) w.steps);
            ends = w.ends;
          }
          go w r (some e') u =
              let i = h q (first refl) in
              let t = taken u (elsewhere b r.1 (x ∷ []) (λ f j o. not_in q i r f j (in_one o))) in
              let m = own b t in
              record {
                log = r.0 ++ w.log;
                steps = descends p s u (λ o. not_in q i r m.0 m.1 (m.2 ∙ in_one o)) t w.steps;
                ends = ends_right r.0 w.ends;
              }

      -- afresh, the cell takes the trace's way
      pub fits : Done []
      fits = follow whole-way refl (λ q i. i)
