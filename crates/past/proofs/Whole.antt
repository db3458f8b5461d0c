-- What stands in a log: each of its finishings is a whole working-out, and two of one cell are equal.
use Rattle.std.proofs.Common.{◌≡◌, ℕ, ◌≤◌, ◌⊎◌, List, [], ◌∷◌, ◌++◌, length, sym, refl, ap, ◌∙◌, subst, inl, inr, arith, length-append}
use mathlib.Core.Option.{some}
use native.Mathlib.Decide.{ℕ_discrete}
use Rattle.std.proofs.lemmas.Bool.{eq-eqb, ne_eqb}
use Rattle.interfaces.specs.Tasks.{Def}
use Rattle.interfaces.specs.Traces.{Pair}
use Rattle.past.specs.Afresh.{In, first, later, State, Finishing, Outcome, gave, Steps, finishes, breaks, ninth, circle, reads, descends, sinks, Afresh, input, worked}
use Rattle.past.specs.Past.{found}
use Rattle.past.proofs.Lists.{in_left, in_right, in_both, Ends, ends_one, ends_right}
use Rattle.past.proofs.Alone.{one_def, alike}

module _ {M : Type 0} (b : State M) where
  pub record Whole (log : List (Finishing M)) (f : Finishing M) : Type 0 where
    pub path : List ℕ
    pub c : ℕ
    pub d : Def M
    pub l : List (Finishing M)
    pub v : M
    pub cell_is : f.cell ≡ c
    pub result_is : f.result ≡ v
    pub def_is : b.defs c ≡ some d
    pub on_path : In c path
    pub steps : Steps b path c d [] l (gave v)
    pub ends : Ends l f
    pub within : (g : Finishing M) → In g l → In g log
    pub short : length l ≤ length log

  record Own (c : ℕ) (log : List (Finishing M)) (o : Outcome M) (f : Finishing M) : Type 0 where
    v : M
    cell_is : f.cell ≡ c
    result_is : f.result ≡ v
    o_is : o ≡ gave v
    ends : Ends log f

  pub widen : {log log' : List (Finishing M)} {f : Finishing M} → length log ≤ length log' → ((g : Finishing M) → In g log → In g log') → Whole log f → Whole log' f
  widen n s w = record { path = w.path; c = w.c; d = w.d; l = w.l; v = w.v; cell_is = w.cell_is; result_is = w.result_is; def_is = w.def_is; on_path = w.on_path; steps = w.steps; ends = w.ends; within = λ g i. s g (w.within g i); short = omega (arith, w.short) }

  close : {path : List ℕ} {c : ℕ} {d : Def M} {log : List (Finishing M)} {o : Outcome M} {f : Finishing M}
      → In c path → b.defs c ≡ some d → Steps b path c d [] log o → Own c log o f → Whole log f
  close {path} {c} {d} {log} oc s t w = record { on_path = oc; path = path; c = c; d = d; l = log; v = w.v; cell_is = w.cell_is; result_is = w.result_is; def_is = s; steps = subst (λ z. Steps b path c d [] log z) w.o_is t; ends = w.ends; within = λ g i. i; short = omega arith }

  settle : {path : List ℕ} {c : ℕ} {d : Def M} {log : List (Finishing M)} {o : Outcome M} {f : Finishing M}
      → In c path → b.defs c ≡ some d → Steps b path c d [] log o → Own c log o f ⊎ Whole log f → Whole log f
  settle oc s t (inl w) = close oc s t w
  settle oc s t (inr w) = w

  whole : {path : List ℕ} {c : ℕ} {d : Def M} {x : List (Pair M)} {log : List (Finishing M)} {o : Outcome M} {f : Finishing M}
      → Steps b path c d x log o → In f log → Own c log o f ⊎ Whole log f
  whole (finishes {v = v} p) (first e) = inl (record { v = v; cell_is = ap (λ z. z.cell) e; result_is = ap (λ z. z.result) e; o_is = refl; ends = record { pre = []; is = cc } })
  whole (finishes p) (later i) = elim i [ ]
  whole (breaks p) i = elim i [ ]
  whole (ninth p _) i = elim i [ ]
  whole (circle p _ _ _) i = elim i [ ]
  whole (reads p _ _ t) i = whole t i
  whole {path} {c} {o} {f} (descends {below = below} {log = log} p _ s _ t t') i = go (λ j. settle (in_right path (first refl)) s t (whole t j)) (λ j. whole t' j) (in_both below i)
    where
      grow : Own c log o f ⊎ Whole log f → Own c (below ++ log) o f ⊎ Whole (below ++ log) f
      grow (inl w) = inl (record { v = w.v; cell_is = w.cell_is; result_is = w.result_is; o_is = w.o_is; ends = ends_right below w.ends })
      grow (inr w) = inr (widen (omega (arith, length-append below log)) (λ g k. in_right below k) w)

      go : (In f below → Whole below f) → (In f log → Own c log o f ⊎ Whole log f) → In f below ⊎ In f log → Own c (below ++ log) o f ⊎ Whole (below ++ log) f
      go h k (inl j) = inr (widen (omega (arith, length-append below log)) (λ g i'. in_left log i') (h j))
      go h k (inr j) = grow (k j)
  whole {path} (sinks p _ s _ t) i = inr (settle (in_right path (first refl)) s t (whole t i))

  pub all_whole : {path : List ℕ} {c : ℕ} {log : List (Finishing M)} {o : Outcome M} {f : Finishing M} → Afresh b path c log o → In f log → Whole log f
  all_whole (input _) i = elim i [ ]
  all_whole {path} (worked s t) i = settle (in_right path (first refl)) s t (whole t i)

  -- two finishings of one cell are equal
  pub coherent : {log log' : List (Finishing M)} {f g : Finishing M} → f.cell ≡ g.cell → Whole log f → Whole log' g → f ≡ g
  coherent e w w' =
      let k : w.c ≡ w'.c = sym w.cell_is ∙ e ∙ w'.cell_is in
      let m = w.def_is in
      let n = w'.def_is in
      let r = alike b k (one_def b k m n) refl w.steps w'.steps in
      ends_one r.0 w.ends w'.ends

-- looking a cell up in a log
pub found_here : {M : Type 0} (f : Finishing M) (l : List (Finishing M)) (x : ℕ) → x ≡ f.cell → found (f ∷ l) x ≡ some f
unfolding found
found_here f l x e = rw (eq-eqb x f.cell e) refl

pub found_past : {M : Type 0} (f : Finishing M) (l : List (Finishing M)) (x : ℕ) → ¬ (x ≡ f.cell) → found (f ∷ l) x ≡ found l x
unfolding found
found_past f l x n = rw (ne_eqb x f.cell n) refl

pub found_in : {M : Type 0} {f : Finishing M} (l : List (Finishing M)) (x : ℕ) → found l x ≡ some f → In f l × (f.cell ≡ x)
unfolding found
found_in [] x e = let z : ◌≡◌ {A = ℕ} 0 1 = cc in absurd (omega arith)
found_in {f} (g ∷ l) x e = go (ℕ_discrete x g.cell) (λ k. found_in l x k)
  where
    go : Dec (x ≡ g.cell) → (found l x ≡ some f → In f l × (f.cell ≡ x)) → In f (g ∷ l) × (f.cell ≡ x)
    go (yes h) ih = let k = found_here g l x h in let q : f ≡ g = cc in (first q, ap (λ z. z.cell) q ∙ sym h)
    go (no n) ih = let k = ih (sym (found_past g l x n) ∙ e) in (later k.0, k.1)

pub in_found : {M : Type 0} {f : Finishing M} (l : List (Finishing M)) → In f l → ((g : Finishing M) → In g l → g.cell ≡ f.cell → g ≡ f) → found l f.cell ≡ some f
in_found [] i h = elim i [ ]
in_found {f} (g ∷ l) i h = go (ℕ_discrete f.cell g.cell) i (λ j. in_found l j (λ g' k. h g' (later k)))
  where
    go : Dec (f.cell ≡ g.cell) → In f (g ∷ l) → (In f l → found l f.cell ≡ some f) → found (g ∷ l) f.cell ≡ some f
    go (yes e) i ih = found_here g l f.cell e ∙ ap some (h g (first refl) (sym e))
    go (no n) (first e) ih = absurd (n (ap (λ z. z.cell) e))
    go (no n) (later j) ih = found_past g l f.cell n ∙ ih j

-- a log of whole workings-out, as one is in the midst of a query
abbrev pub Sound : {M : Type 0} → State M → List (Finishing M) → Type 0
Sound {M} b l = (f : Finishing M) → In f l → Whole b l f

pub sound_found : {M : Type 0} (b : State M) (log : List (Finishing M)) {f : Finishing M} → Sound b log → In f log → found log f.cell ≡ some f
sound_found b log {f} a i = in_found log i (λ g j e. coherent b e (a g j) (a f i))
