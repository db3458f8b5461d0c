-- A report and a path have no more entries than there are cells; a defined cell is not locked.
use Rattle.std.proofs.Common.{◌≡◌, ℕ, ◌+◌, ◌<◌, ◌≤◌, Bool, true, false, List, [], ◌∷◌, length, sym, refl, ap, ◌∙◌, arith}
use mathlib.Core.Option.{none, some}
use native.Mathlib.Decide.{ℕ_discrete}
use Rattle.interfaces.specs.Cells.{cell_count}
use Rattle.interfaces.specs.Tasks.{Def, Verdict}
use Rattle.past.specs.Afresh.{In, first, later, Finishing, Log}
use Rattle.past.specs.Past.{Run, refused, edited, defined, cleared, queried, Past, start, ◌▹◌, defs, state, Cause, never, touched, InDoubt, Report, end, ran, again, idle}
use Rattle.past.specs.Law.{locked_define, Acceptable, Right, Lawful}
use Rattle.past.proofs.Lists.{no_some, free, free_most, free_front}
use Rattle.past.proofs.Since.{changed_here, changed_away}
use Rattle.past.proofs.Decided.{bound}
use Rattle.past.proofs.Total.{below_count}
use Rattle.view.specs.View.{View}
use Rattle.midway.specs.Midway.{Mid, Distinct}

distinct_short : (n : ℕ) (l : List ℕ) → Distinct l → ((y : ℕ) → In y l → y < n) → length l + free n l ≤ n
distinct_short n [] d k = omega (arith, free_most n [])
distinct_short n (x ∷ l) d k = omega (arith, distinct_short n l d.1 (λ y i. k y (later i)), free_front n x l (k x (first refl)) d.0)

module _ {M : Type 0} (blank : M) (locks : ℕ → Bool) (stands : List ℕ → Verdict M) (depth : ℕ) where
  open_bool : (b : Bool) → ¬ (b ≡ true) → b ≡ false
  open_bool true n = absurd (n refl)
  open_bool false n = refl

  -- a defined cell is not locked
  pub defined_open : (p : Past M) → Lawful blank locks stands depth p → (x : ℕ) (d : Def M) → defs p x ≡ some d → locks x ≡ false
  unfolding Lawful Right defs Acceptable
  defined_open (start s) h x d e = absurd (no_some e)
  defined_open (p ▹ refused q said) h x d e = defined_open p h.0 x d e
  defined_open (p ▹ edited c v) h x d e = defined_open p h.0 x d e
  defined_open (p ▹ defined c text d') h x d e = go (λ k. defined_open p h.0 x d k) (ℕ_discrete x c)
    where
      go : (defs p x ≡ some d → locks x ≡ false) → Dec (x ≡ c) → locks x ≡ false
      go ih (yes q) = ap locks q ∙ open_bool (locks c) (λ l. h.2.0 _ _ (locked_define l))
      go ih (no n) = ih (sym (changed_away c (some d') (defs p) x n) ∙ e)
  defined_open (p ▹ cleared c) h x d e = go (λ k. defined_open p h.0 x d k) (ℕ_discrete x c)
    where
      go : (defs p x ≡ some d → locks x ≡ false) → Dec (x ≡ c) → locks x ≡ false
      go ih (yes q) = absurd (no_some (sym (changed_here c none (defs p) x q) ∙ e))
      go ih (no n) = ih (sym (changed_away c none (defs p) x n) ∙ e)
  defined_open (p ▹ queried c lent log o report) h x d e = defined_open p h.0 x d e

  module _ (p : Past M) (h : Lawful blank locks stands depth p) where
    small : (x : ℕ) {d : Def M} → defs p x ≡ some d → x < cell_count
    small x e = below_count (state blank p) (bound blank locks stands depth p h) e

    report_short : {seen : List ℕ} {l : Log M} {r : List (Run M)} → Report blank depth p seen l r → ((f : Finishing M) → In f l → f.cell < cell_count) → length r ≤ free cell_count seen
    report_short end k = omega arith
    report_short {seen} (ran {f = f} n u c r) k = omega (arith, report_short r (λ g i. k g (later i)), free_front cell_count f.cell seen (k f (first refl)) n)
    report_short (again o r) k = report_short r (λ g i. k g (later i))
    report_short {seen} (idle {f = f} n u r) k = omega (arith, report_short r (λ g i. k g (later i)), free_front cell_count f.cell seen (k f (first refl)) n)

    pub mid_short : (l : Log M) (r : List (Run M)) (w : View M) → Mid blank locks depth p l r w → length r ≤ cell_count
    mid_short l r w m = omega (arith, report_short m.report (λ f i. small f.cell (m.full f i).def_is), free_most cell_count [])

    in_doubt_small : (y : ℕ) {z : ℕ} → Cause blank p y z → y < cell_count
    in_doubt_small y (never e _) = small y e
    in_doubt_small y (touched e _ _) = small y e

    pub path_short : (path : List ℕ) → Distinct path → ((y : ℕ) → In y path → InDoubt blank p y) → length path ≤ cell_count
    path_short path d k = omega (arith, distinct_short cell_count path d (λ y i. in_doubt_small y (k y i).1))
