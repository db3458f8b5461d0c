-- Logs: what is found in them, and whole finishings.
use Rattle.std.proofs.Common.{◌≡◌, ℕ, ◌⊎◌, List, [], ◌∷◌, ◌++◌, sym, refl, ap, ◌∙◌, subst, inl, inr}
use mathlib.Core.Option.{Option, none, some}
use native.Mathlib.Decide.{ℕ_discrete}
use Rattle.interfaces.specs.Tasks.{Def}
use Rattle.past.specs.Afresh.{In, first, later, State, Finishing, Log, gave, Steps, Afresh, worked}
use Rattle.past.specs.Past.{found}
use Rattle.past.proofs.Lists.{no_some, in_left, in_right, in_both, in_one}
use Rattle.past.proofs.Whole.{Whole, found_here, found_past, found_in}
use Rattle.past.proofs.Elsewhere.{retraced}
use Rattle.midway.specs.Midway.{Full}

module _ {M : Type 0} where
  pub found_left : (l m : Log M) (x : ℕ) {f : Finishing M} → found l x ≡ some f → found (l ++ m) x ≡ some f
  unfolding found
  found_left [] m x e = absurd (no_some e)
  found_left (g ∷ l) m x {f} e = go (ℕ_discrete x g.cell) (λ k. found_left l m x k)
    where
      go : Dec (x ≡ g.cell) → (found l x ≡ some f → found (l ++ m) x ≡ some f) → found (g ∷ (l ++ m)) x ≡ some f
      go (yes h) ih = found_here g (l ++ m) x h ∙ sym (found_here g l x h) ∙ e
      go (no n) ih = found_past g (l ++ m) x n ∙ ih (sym (found_past g l x n) ∙ e)

  pub found_skip : (l m : Log M) (x : ℕ) → found l x ≡ none → found (l ++ m) x ≡ found m x
  unfolding found
  found_skip [] m x e = refl
  found_skip (g ∷ l) m x e = go (ℕ_discrete x g.cell) (λ k. found_skip l m x k)
    where
      go : Dec (x ≡ g.cell) → (found l x ≡ none → found (l ++ m) x ≡ found m x) → found (g ∷ (l ++ m)) x ≡ found m x
      go (yes h) ih = absurd (no_some (sym e ∙ found_here g l x h))
      go (no n) ih = found_past g (l ++ m) x n ∙ ih (sym (found_past g l x n) ∙ e)

  pub not_found : (l : Log M) (x : ℕ) → ((f : Finishing M) → In f l → ¬ (f.cell ≡ x)) → found l x ≡ none
  not_found l x h = go (found l x) refl
    where
      go : (z : Option (Finishing M)) → found l x ≡ z → found l x ≡ none
      go none e = e
      go (some f) e = let k = found_in l x e in absurd (h f k.0 k.1)

  pub on_cells : (l : Log M) (x : ℕ) {f : Finishing M} → In f l → f.cell ≡ x → ¬ (found l x ≡ none)
  on_cells [] x i e n = elim i [ ]
  on_cells (g ∷ l) x {f} i e n = go i (ℕ_discrete x g.cell) (λ j k. on_cells l x j e k)
    where
      go : In f (g ∷ l) → Dec (x ≡ g.cell) → (In f l → found l x ≡ none → ⊥) → ⊥
      go i (yes h) ih = no_some (sym n ∙ found_here g l x h)
      go (first q) (no m) ih = m (sym e ∙ ap (λ z. z.cell) q)
      go (later j) (no m) ih = ih j (sym (found_past g l x m) ∙ n)

  -- a finished cell finishes alike on the empty path
  pub started : (b : State M) {path : List ℕ} {c : ℕ} {d : Def M} {l : Log M} {v : M} → In c path → b.defs c ≡ some d → Steps b path c d [] l (gave v) → Afresh b [] c l (gave v)
  started b {c = c} o u t = worked u (retraced b t o (c ∷ []) (λ f i n k. n (in_one k)))

  pub whole_full : (b : State M) {l : Log M} {f : Finishing M} → Whole b l f → Full b l f
  whole_full b {l} {f} w = record {
    path = w.path;
    d = w.d;
    before = w.ends.pre;
    def_is = ap (λ z. b.defs z) w.cell_is ∙ w.def_is;
    on_path = subst (λ z. In z w.path) (sym w.cell_is) w.on_path;
    steps = moved w.cell_is w.result_is w.ends.is w.steps;
    within = λ g i. w.within g (subst (λ z. In g z) (sym w.ends.is) (in_left (f ∷ []) i));
  }
    where
      moved : {c : ℕ} {v : M} {k : Log M} → f.cell ≡ c → f.result ≡ v → k ≡ w.ends.pre ++ (f ∷ []) → Steps b w.path c w.d [] k (gave v) → Steps b w.path f.cell w.d [] (w.ends.pre ++ (f ∷ [])) (gave f.result)
      moved {c} {v} {k} e e' e'' t = subst (λ z. Steps b w.path z w.d [] (w.ends.pre ++ (f ∷ [])) (gave f.result)) (sym e) (subst (λ z. Steps b w.path c w.d [] (w.ends.pre ++ (f ∷ [])) (gave z)) (sym e') (subst (λ z. Steps b w.path c w.d [] z (gave v)) e'' t))

  pub full_left : (b : State M) {l : Log M} (m : Log M) {f : Finishing M} → Full b l f → Full b (l ++ m) f
  full_left b {l} m w = record { path = w.path; d = w.d; before = w.before; def_is = w.def_is; on_path = w.on_path; steps = w.steps; within = λ g i. in_left m (w.within g i) }

  full_right : (b : State M) (l : Log M) {m : Log M} {f : Finishing M} → Full b m f → Full b (l ++ m) f
  full_right b l {m} w = record { path = w.path; d = w.d; before = w.before; def_is = w.def_is; on_path = w.on_path; steps = w.steps; within = λ g i. in_right l (w.within g i) }

  pub full_both : (b : State M) (l m : Log M) → ((f : Finishing M) → In f l → Full b l f) → ((f : Finishing M) → In f m → Full b m f) → (f : Finishing M) → In f (l ++ m) → Full b (l ++ m) f
  full_both b l m h k f i = go (in_both l i)
    where
      go : In f l ⊎ In f m → Full b (l ++ m) f
      go (inl j) = full_left b m (h f j)
      go (inr j) = full_right b l (k f j)
