-- What a cell reaches by the asked cells of the table is what it reaches by the last finishings of the past; and from a
-- cell that is not in doubt no way down is longer than there are cells.
use Rattle.std.proofs.Common.{◌≡◌, ℕ, zero, suc, ◌≤◌, ◌⊎◌, List, [], ◌∷◌, ◌++◌, sym, refl, ap, ◌∙◌, subst, inl, inr, arith}
use mathlib.Core.Option.{Option, none, some}
use Rattle.interfaces.specs.Cells.{cell_count}
use Rattle.interfaces.specs.Tasks.{Def}
use Rattle.past.specs.Afresh.{In, State, Finishing, first as first', later as later'}
use Rattle.past.specs.Past.{cells, Reaches, directly, beyond}
use Rattle.past.proofs.Lists.{in_both, in_one, free, free_most, free_fewer}
use Rattle.past.proofs.Alone.{none_some}
use Rattle.past.proofs.Total.{below_count}
use Rattle.past.proofs.Cert.{Cert, cert, no_loop}
use Rattle.view.specs.View.{asked_in}
use Rattle.table.specs.Marks.{Among, first, later, Leads, near, far, Shallow, shallow}

to_in : {x : ℕ} {l : List ℕ} → Among x l → In x l
to_in (first e) = first' e
to_in (later a) = later' (to_in a)

from_in : {x : ℕ} {l : List ℕ} → In x l → Among x l
from_in (first' e) = first e
from_in (later' i) = later (from_in i)

module _ {M : Type 0} (lasts : ℕ → Option (Finishing M)) (asked : ℕ → List ℕ) (is : (x : ℕ) → asked x ≡ asked_in (lasts x)) where
  pub asks_of : {x y : ℕ} → Among y (asked x) → (f : Finishing M) × (lasts x ≡ some f) × In y (cells f.asks)
  asks_of {x} {y} a = go (lasts x) refl
    where
      go : (o : Option (Finishing M)) → lasts x ≡ o → (f : Finishing M) × (lasts x ≡ some f) × In y (cells f.asks)
      go none e = let z = subst (λ l. Among y l) (is x ∙ ap asked_in e) a in elim z [ ]
      go (some f) e = (f, e, to_in (subst (λ l. Among y l) (is x ∙ ap asked_in e) a))

  asked_by : {x y : ℕ} {f : Finishing M} → lasts x ≡ some f → In y (cells f.asks) → Among y (asked x)
  asked_by {x} {y} {f} e i = subst (λ l. Among y l) (sym (is x ∙ ap asked_in e)) (from_in i)

  pub leads_reaches : {c x : ℕ} → Leads asked c x → Reaches lasts x c
  leads_reaches (near a) = let w = asks_of a in directly w.1 w.2
  leads_reaches (far a l) = let w = asks_of a in beyond w.1 w.2 (leads_reaches l)

  pub reaches_leads : {x c : ℕ} → Reaches lasts x c → Leads asked c x
  reaches_leads (directly p i) = near (asked_by p i)
  reaches_leads (beyond p i r) = far (asked_by p i) (reaches_leads r)

module _ {M : Type 0} (b : State M) (F : ℕ → Option (Finishing M)) (alive : (y : ℕ) (f : Finishing M) → F y ≡ some f → (d : Def M) × (b.defs y ≡ some d))
    (bound : (c : ℕ) → cell_count ≤ c → b.defs c ≡ none) (asked : ℕ → List ℕ) (is : (x : ℕ) → asked x ≡ asked_in (F x)) where
  -- an input asked for nothing
  input_shallow : {y : ℕ} (n : ℕ) → b.defs y ≡ none → Shallow asked (suc n) y
  input_shallow {y} n e = shallow (λ z a. let w = asks_of F asked is a in absurd (none_some b refl e (alive y w.0 w.1).1))

  -- below a cell of a path, whose cells it does not reach again
  shallow_below : (n : ℕ) (path : List ℕ) {x : ℕ} → Cert b F x → free cell_count path ≤ n
      → ((z : ℕ) → In z path → ¬ (z ≡ x)) → ((z : ℕ) → In z path → ¬ Reaches F x z) → Shallow asked (suc n) x
  shallow_below zero path (cert {x = x} s l e i t k) h o r = absurd (omega (arith, free_fewer cell_count x path (below_count b bound s) (λ j. o x j refl)))
  shallow_below (suc n) path (cert {x = x} {f = f} s l e i t k) h o r =
      shallow (λ y a. child y a (λ j d q. shallow_below n (path ++ (x ∷ [])) (k y j d q)
      (omega (arith, free_fewer cell_count x path (below_count b bound s) (λ z. o x z refl))) (apart y j) (beneath y j)))
    where
      around : ¬ Reaches F x x
      around = no_loop b F alive (cert {x = x} s l e i t k)

      apart : (y : ℕ) → In y (cells f.asks) → (z : ℕ) → In z (path ++ (x ∷ [])) → ¬ (z ≡ y)
      apart y j z m q = go (in_both path m)
        where
          go : In z path ⊎ In z (x ∷ []) → ⊥
          go (inl u) = r z u (subst (λ v. Reaches F x v) (sym q) (directly l j))
          go (inr u) = around (subst (λ v. Reaches F x v) (sym q ∙ in_one u) (directly l j))

      beneath : (y : ℕ) → In y (cells f.asks) → (z : ℕ) → In z (path ++ (x ∷ [])) → ¬ Reaches F y z
      beneath y j z m v = go (in_both path m)
        where
          go : In z path ⊎ In z (x ∷ []) → ⊥
          go (inl u) = r z u (beyond l j v)
          go (inr u) = around (subst (λ c. Reaches F x c) (in_one u) (beyond l j v))

      child : (y : ℕ) → Among y (asked x) → (In y (cells f.asks) → (d : Def M) → b.defs y ≡ some d → Shallow asked (suc n) y) → Shallow asked (suc n) y
      child y a ih = go (b.defs y) refl
        where
          here : In y (cells f.asks)
          here = let w = asks_of F asked is a in let q : w.0 ≡ f = cc w.1 in subst (λ g. In y (cells g.asks)) q w.2

          go : (z : Option (Def M)) → b.defs y ≡ z → Shallow asked (suc n) y
          go none q = input_shallow n q
          go (some d) q = ih here d q

  pub certified_shallow : {x : ℕ} → Cert b F x → Shallow asked (suc cell_count) x
  certified_shallow c = shallow_below cell_count [] c (free_most cell_count []) (λ z i. elim i [ ]) (λ z i. elim i [ ])
