-- The sample pasts are lawful.
use Rattle.std.proofs.Common.{◌≡◌, ℕ, ◌+◌, ◌/◌, ◌<◌, List, [], ◌∷◌, ◌++◌, length, replicate, Ok, sym, refl, ◌∙◌, subst, inl, inr, arith}
use mathlib.Core.Option.{Option, none, some}
use Rattle.interfaces.specs.Cells.{text_limit}
use Rattle.interfaces.specs.Tasks.{Def, legal}
use Rattle.interfaces.specs.Traces.{Trace}
use Rattle.past.specs.Afresh.{In, first, later, State, Finishing, gave, Steps, finishes, ninth, circle, reads, descends, sinks, Afresh, worked}
use Rattle.past.specs.Past.{edit, query, defined, Past, start, changed, cells, found, or_else, result_or, defs, last, up_to, Reaches, directly, beyond, traces_of, runs_of, kept, stored, state, Touches, Still, then, since, falls, fell, Cause, never, touched, Fits, Runs, end, ran, idle}
use Rattle.past.specs.Law.{Acceptable, Right, Lawful}
use Rattle.past.specs.Sample.{A1, A2, A3, B1, C1, D1, E1, half, one_up, copy, sum, nine, half_text, one_more_text, c1_text, d1_text, sum_text, nine_text, stands, no_locks, enough, pair, ended, first₁, first₂, first₃, first₄, first₅, sample, finer₁, finer₂, finer₃, finer₄, finer₅, finer₆, finer₇, finer₈, finer₉, finer₁₀, finer₁₁, finer_sample, lock_a3, bad_text, refusals, refusal_sample}
use Rattle.past.proofs.Lists.{no_some, in_one}
use Rattle.past.proofs.Fitting.{right_input}
use Rattle.past.proofs.Table.{query_refused, query_fine, clear_refused, clear_fine, edit_refused, edit_locked, edit_unread, edit_fine, define_locked, define_length, define_illegal, define_fine}
use Rattle.past.proofs.Since.{still_sure}

-- not on a path
nowhere : {A : Type 0} {a : A} → ¬ In a []
nowhere i = elim i [ ]

off : {x y : ℕ} {l : List ℕ} → ¬ (x ≡ y) → ¬ In x l → ¬ In x (y ∷ l)
off n m (first e) = n e
off n m (later i) = m i

apart₁ : {x y : ℕ} → ¬ (x ≡ y) → ¬ In x (y ∷ [])
apart₁ n = off n nowhere

apart₂ : {x y z : ℕ} → ¬ (x ≡ y) → ¬ (x ≡ z) → ¬ In x (y ∷ z ∷ [])
apart₂ n m = off n (apart₁ m)

-- the rules of the table that the samples use
ok_edit : (p : Past ℕ) (c v : ℕ) → defs p c ≡ none → Acceptable no_locks stands p (edit c (Ok v))
unfolding no_locks
ok_edit p c v e = edit_fine no_locks stands p c v e refl

ok_query : (p : Past ℕ) (c : ℕ) → Acceptable no_locks stands p (query c enough)
ok_query p c = query_fine no_locks stands p c enough (λ h. absurd (omega arith)) (λ h. absurd (omega arith)) (λ h. absurd (omega arith))

ok_text : (text : List ℕ) (d : Def ℕ) → ¬ (length text ≡ 0) → ¬ (text_limit < length text) → stands text ≡ legal d → (p : Past ℕ) (c : ℕ) → Right 0 no_locks stands 1 p (defined c text d)
unfolding no_locks Right
ok_text text d n m e p c = (define_fine no_locks stands p c text refl n m e, e)

half_placed : (p : Past ℕ) (c : ℕ) → Right 0 no_locks stands 1 p (defined c half_text half)
unfolding stands
half_placed = ok_text half_text half (λ e. absurd (omega arith)) (λ e. absurd (omega arith)) refl

more_placed : (p : Past ℕ) (c : ℕ) → Right 0 no_locks stands 1 p (defined c one_more_text one_up)
unfolding stands
more_placed = ok_text one_more_text one_up (λ e. absurd (omega arith)) (λ e. absurd (omega arith)) refl

c1_placed : (p : Past ℕ) (c : ℕ) → Right 0 no_locks stands 1 p (defined c c1_text (copy C1))
unfolding stands
c1_placed = ok_text c1_text (copy C1) (λ e. absurd (omega arith)) (λ e. absurd (omega arith)) refl

d1_placed : (p : Past ℕ) (c : ℕ) → Right 0 no_locks stands 1 p (defined c d1_text (copy D1))
unfolding stands
d1_placed = ok_text d1_text (copy D1) (λ e. absurd (omega arith)) (λ e. absurd (omega arith)) refl

sum_placed : (p : Past ℕ) (c : ℕ) → Right 0 no_locks stands 1 p (defined c sum_text sum)
unfolding stands
sum_placed = ok_text sum_text sum (λ e. absurd (omega arith)) (λ e. absurd (omega arith)) refl

nine_placed : (p : Past ℕ) (c : ℕ) → Right 0 no_locks stands 1 p (defined c nine_text nine)
unfolding stands
nine_placed = ok_text nine_text nine (λ e. absurd (omega arith)) (λ e. absurd (omega arith)) refl

-- the definitions at work, in any state that holds their inputs
module _ (s : State ℕ) (path : List ℕ) where
  half_steps : (a : ℕ) → s.defs A1 ≡ none → s.stored A1 ≡ a → Steps s path B1 half [] (ended B1 (pair A1 a ∷ []) (a / 2) ∷ []) (gave (a / 2))
  unfolding half
  half_steps a n e = subst (λ z. Steps s path B1 half [] (ended B1 (pair A1 z ∷ []) (z / 2) ∷ []) (gave (z / 2))) e (reads refl (omega arith) n (finishes refl))

  sum_steps : (a b : ℕ) → s.defs A1 ≡ none → s.defs A2 ≡ none → s.stored A1 ≡ a → s.stored A2 ≡ b
      → Steps s path B1 sum [] (ended B1 (pair A1 a ∷ pair A2 b ∷ []) (a + b) ∷ []) (gave (a + b))
  unfolding sum
  sum_steps a b n m e e' =
      subst (λ z. Steps s path B1 sum [] (ended B1 (pair A1 z ∷ pair A2 b ∷ []) (z + b) ∷ []) (gave (z + b))) e
      (subst (λ z. Steps s path B1 sum [] (ended B1 (pair A1 (s.stored A1) ∷ pair A2 z ∷ []) (s.stored A1 + z) ∷ []) (gave (s.stored A1 + z))) e'
      (reads refl (omega arith) n (reads refl (omega arith) m (finishes refl))))

  -- C1 by a B1 that is defined, and by one that is an input
  more_steps : (b : ℕ) {d : Def ℕ} {below : List (Finishing ℕ)} → s.defs B1 ≡ some d → ¬ In B1 path → Steps s (path ++ (B1 ∷ [])) B1 d [] below (gave b)
      → Steps s path C1 one_up [] (below ++ (ended C1 (pair B1 b ∷ []) (b + 1) ∷ [])) (gave (b + 1))
  unfolding one_up
  more_steps b e n t = descends refl (omega arith) e n t (finishes refl)

  more_reads : (b : ℕ) → s.defs B1 ≡ none → s.stored B1 ≡ b → Steps s path C1 one_up [] (ended C1 (pair B1 b ∷ []) (b + 1) ∷ []) (gave (b + 1))
  unfolding one_up
  more_reads b n e = subst (λ z. Steps s path C1 one_up [] (ended C1 (pair B1 z ∷ []) (z + 1) ∷ []) (gave (z + 1))) e (reads refl (omega arith) n (finishes refl))

-- a cell that no query has finished since its definition is run
fresh : (p : Past ℕ) (x : ℕ) {d : Def ℕ} → defs p x ≡ some d → up_to p x ≡ none → kept 1 p x ≡ [] → Runs 0 1 p x
unfolding Runs
fresh p x e u k = ((x, never e u), λ t i. absurd (nowhere (subst (λ z. In t z) k i)))

-- so is one in doubt whose kept trace has an input at another value
stale : (p : Past ℕ) (x y : ℕ) {t : Trace ℕ} (c v : ℕ) → Cause 0 p x y → kept 1 p x ≡ t ∷ [] → In (pair c v) t.asks → defs p c ≡ none → ¬ (stored 0 p c ≡ v) → Runs 0 1 p x
unfolding Runs Fits
stale p x y c v w k i n m = ((y, w), λ t j f. m (right_input (state 0 p) refl n (f (pair c v) (subst (λ z. In (pair c v) z.asks) (sym (in_one (subst (λ z. In t z) k j))) i)).1).1)

-- one whose kept trace has one pair, and fits, is not run
fitting : (p : Past ℕ) (x : ℕ) (c v w : ℕ) {log : List (Finishing ℕ)} → kept 1 p x ≡ record { asks = pair c v ∷ []; result = w } ∷ [] → Afresh (state 0 p) [] c log (gave v) → ¬ Runs 0 1 p x
unfolding Runs Fits
fitting p x c v w {log} k a r = r.1 _ (subst (λ z. In (record { asks = pair c v ∷ []; result = w }) z) (sym k) (first refl))
    (λ q i. subst (λ z. (log : List (Finishing ℕ)) × Afresh (state 0 p) [] z.cell log (gave z.value)) (sym (in_one i)) (log, a))

-- nor is one that is not in doubt
calm : (p : Past ℕ) (x : ℕ) {t : Past ℕ} → up_to p x ≡ some t → Still 0 t x p → ¬ Runs 0 1 p x
unfolding Runs
calm p x u s r = still_sure 0 u s r.0

-- where a cell asked for inputs alone, it reaches them alone
flat : {lasts : ℕ → Option (Finishing ℕ)} {x z : ℕ} {f : Finishing ℕ} → lasts x ≡ some f → ((y : ℕ) → In y (cells f.asks) → lasts y ≡ none) → Reaches lasts x z → In z (cells f.asks)
flat {lasts} {x} {z} {f} e n r = go e n r
  where
    same_asks : {x y : ℕ} {g : Finishing ℕ} → lasts x ≡ some f → lasts x ≡ some g → In y (cells g.asks) → In y (cells f.asks)
    same_asks {y = y} {g = g} e p i = let q : g ≡ f = cc in subst (λ w. In y (cells w.asks)) q i

    nothing : {y z : ℕ} → lasts y ≡ none → Reaches lasts y z → ⊥
    nothing e (directly p i) = no_some (sym e ∙ p)
    nothing e (beyond p i r) = no_some (sym e ∙ p)

    go : {x z : ℕ} → lasts x ≡ some f → ((y : ℕ) → In y (cells f.asks) → lasts y ≡ none) → Reaches lasts x z → In z (cells f.asks)
    go e n (directly p i) = same_asks e p i
    go e n (beyond {y = y} p i r) = absurd (nothing (n y (same_asks e p i)) r)

-- the first past
lawful₁ : Lawful 0 no_locks stands 1 first₁
unfolding Lawful Right first₁ defs changed
lawful₁ = (((tt, omega arith, ok_edit (start (λ c. 0)) A1 5 refl), omega arith, half_placed _ B1), omega arith, more_placed _ C1)

lawful₂ : Lawful 0 no_locks stands 1 first₂
unfolding Lawful Right first₁ first₂ defs changed stored up_to kept runs_of
lawful₂ = (
  lawful₁,
  omega arith,
  (
    ok_query first₁ C1,
    worked refl (more_steps (state 0 first₁) (C1 ∷ []) 2 refl (apart₁ (λ e. absurd (omega arith))) (half_steps (state 0 first₁) (C1 ∷ B1 ∷ []) 5 refl refl)),
    ran nowhere (fresh first₁ B1 refl refl refl) (never refl refl)
        (ran (apart₁ (λ e. absurd (omega arith))) (fresh first₁ C1 refl refl refl) (never refl refl) end),
  ),
)

lawful₃ : Lawful 0 no_locks stands 1 first₃
unfolding Lawful Right first₁ first₂ first₃ defs changed
lawful₃ = (lawful₂, omega arith, ok_edit first₂ A1 4 refl)

-- the edit of A1 is the cause of both
half_cause : Cause 0 first₃ B1 A1
unfolding first₁ first₂ first₃ defs changed stored up_to last found or_else result_or Touches
half_cause = touched refl refl (falls then (refl, λ e. absurd (omega arith)) (directly refl (first refl)))

lawful₄ : Lawful 0 no_locks stands 1 first₄
unfolding Lawful Right first₁ first₂ first₃ first₄ defs changed stored result_or found kept runs_of traces_of
lawful₄ = (
  lawful₃,
  omega arith,
  (
    ok_query first₃ C1,
    worked refl (more_steps (state 0 first₃) (C1 ∷ []) 2 refl (apart₁ (λ e. absurd (omega arith))) (half_steps (state 0 first₃) (C1 ∷ B1 ∷ []) 4 refl refl)),
    ran nowhere (stale first₃ B1 A1 A1 5 half_cause refl (first refl) refl (λ e. absurd (omega arith))) half_cause
        (idle (apart₁ (λ e. absurd (omega arith))) (fitting first₃ C1 B1 2 3 refl (worked refl (half_steps (state 0 first₃) (B1 ∷ []) 4 refl refl))) end),
  ),
)

lawful₅ : Lawful 0 no_locks stands 1 first₅
unfolding Lawful Right first₁ first₂ first₃ first₄ first₅ defs changed
lawful₅ = ((lawful₄, omega arith, edit_refused no_locks stands first₄ B1 (Ok 9) refl), omega arith, c1_placed _ A1)

pub sample_lawful : Lawful 0 no_locks stands 1 sample
unfolding Lawful Right first₁ first₂ first₃ first₄ first₅ sample defs changed copy one_up half
sample_lawful = (
  lawful₅,
  omega arith,
  (
    ok_query first₅ A1,
    worked refl (sinks refl (omega arith) refl (apart₁ (λ e. absurd (omega arith)))
        (sinks refl (omega arith) refl (apart₂ (λ e. absurd (omega arith)) (λ e. absurd (omega arith)))
        (circle refl (omega arith) refl (first refl)))),
    end,
  ),
)

-- the second past
fine₁ : Lawful 0 no_locks stands 1 finer₁
unfolding Lawful Right finer₁ defs changed
fine₁ = (((tt, omega arith, ok_edit (start (λ c. 0)) A1 2 refl), omega arith, ok_edit _ A2 3 refl), omega arith, sum_placed _ B1)

fine₂ : Lawful 0 no_locks stands 1 finer₂
unfolding Lawful Right finer₁ finer₂ defs changed stored up_to kept runs_of
fine₂ = (
  fine₁,
  omega arith,
  (
    ok_query finer₁ B1,
    worked refl (sum_steps (state 0 finer₁) (B1 ∷ []) 2 3 refl refl refl refl),
    ran nowhere (fresh finer₁ B1 refl refl refl) (never refl refl) end,
  ),
)

fine₃ : Lawful 0 no_locks stands 1 finer₃
unfolding Lawful Right finer₁ finer₂ finer₃ defs changed
fine₃ = (((fine₂, omega arith, ok_edit finer₂ A1 2 refl), omega arith, ok_edit _ A2 4 refl), omega arith, ok_edit _ A1 1 refl)

sum_cause : Cause 0 finer₃ B1 A2
unfolding finer₁ finer₂ finer₃ defs changed stored up_to last found or_else result_or Touches
sum_cause = touched refl refl (fell (falls (since then (λ y h. absurd (h.1 refl))) (refl, λ e. absurd (omega arith)) (directly refl (later (first refl)))))

fine₄ : Lawful 0 no_locks stands 1 finer₄
unfolding Lawful Right finer₁ finer₂ finer₃ finer₄ defs changed stored result_or found kept runs_of traces_of
fine₄ = (
  fine₃,
  omega arith,
  (
    ok_query finer₃ B1,
    worked refl (sum_steps (state 0 finer₃) (B1 ∷ []) 1 4 refl refl refl refl),
    ran nowhere (stale finer₃ B1 A2 A1 2 sum_cause refl (first refl) refl (λ e. absurd (omega arith))) sum_cause end,
  ),
)

fine₅ : Lawful 0 no_locks stands 1 finer₅
unfolding Lawful Right finer₁ finer₂ finer₃ finer₄ finer₅ defs changed
fine₅ = ((fine₄, omega arith, ok_edit finer₄ A1 2 refl), omega arith, ok_edit _ A2 3 refl)

back_cause : Cause 0 finer₅ B1 A1
unfolding finer₁ finer₂ finer₃ finer₄ finer₅ defs changed stored up_to last found or_else result_or Touches
back_cause = touched refl refl (fell (falls then (refl, λ e. absurd (omega arith)) (directly refl (first refl))))

fine₆ : Lawful 0 no_locks stands 1 finer₆
unfolding Lawful Right finer₁ finer₂ finer₃ finer₄ finer₅ finer₆ defs changed stored result_or found kept runs_of traces_of
fine₆ = (
  fine₅,
  omega arith,
  (
    ok_query finer₅ B1,
    worked refl (sum_steps (state 0 finer₅) (B1 ∷ []) 2 3 refl refl refl refl),
    ran nowhere (stale finer₅ B1 A1 A1 1 back_cause refl (first refl) refl (λ e. absurd (omega arith))) back_cause end,
  ),
)

fine₇ : Lawful 0 no_locks stands 1 finer₇
unfolding Lawful finer₇
fine₇ = (fine₆, omega arith, sum_placed finer₆ B1)

fine₈ : Lawful 0 no_locks stands 1 finer₈
unfolding Lawful Right finer₁ finer₂ finer₃ finer₄ finer₅ finer₆ finer₇ finer₈ defs changed stored result_or found up_to kept runs_of
fine₈ = (
  fine₇,
  omega arith,
  (
    ok_query finer₇ B1,
    worked refl (sum_steps (state 0 finer₇) (B1 ∷ []) 2 3 refl refl refl refl),
    ran nowhere (fresh finer₇ B1 refl refl refl) (never refl refl) end,
  ),
)

fine₉ : Lawful 0 no_locks stands 1 finer₉
unfolding Lawful finer₉
fine₉ = (((fine₈, omega arith, more_placed finer₈ C1), omega arith, nine_placed _ D1), omega arith, d1_placed _ E1)

-- B1 asked for A1 and A2, and no definition touches these
sum_calm : Still 0 finer₈ B1 finer₉
unfolding finer₁ finer₂ finer₃ finer₄ finer₅ finer₆ finer₇ finer₈ finer₉ last found or_else changed Touches
sum_calm = since (since (since then (λ y e r. away y (omega arith) (flat refl inputs r))) (λ y e r. away y (omega arith) (flat refl inputs r))) (λ y e r. away y (omega arith) (flat refl inputs r))
  where
    inputs : (y : ℕ) → In y (A1 ∷ A2 ∷ []) → last finer₈ y ≡ none
    inputs y (first e) = rw e refl
    inputs y (later (first e)) = rw e refl
    inputs y (later (later i)) = absurd (nowhere i)

    away : (y : ℕ) → A2 < y → In y (A1 ∷ A2 ∷ []) → ⊥
    away y h (first e) = absurd (omega arith)
    away y h (later (first e)) = absurd (omega arith)
    away y h (later (later i)) = nowhere i

fine₁₀ : Lawful 0 no_locks stands 1 finer₁₀
unfolding Lawful Right finer₁ finer₂ finer₃ finer₄ finer₅ finer₆ finer₇ finer₈ finer₉ finer₁₀ defs changed stored result_or found up_to kept runs_of nine copy
fine₁₀ = (
  fine₉,
  omega arith,
  (
    ok_query finer₉ E1,
    worked refl (sinks refl (omega arith) refl (apart₁ (λ e. absurd (omega arith)))
        (descends refl (omega arith) refl (apart₂ (λ e. absurd (omega arith)) (λ e. absurd (omega arith)))
        (more_steps (state 0 finer₉) (E1 ∷ D1 ∷ C1 ∷ []) 5 refl (off (λ e. absurd (omega arith)) (apart₂ (λ e. absurd (omega arith)) (λ e. absurd (omega arith))))
        (sum_steps (state 0 finer₉) (E1 ∷ D1 ∷ C1 ∷ B1 ∷ []) 2 3 refl refl refl refl))
        (reads refl (omega arith) refl (reads refl (omega arith) refl (reads refl (omega arith) refl (reads refl (omega arith) refl
        (reads refl (omega arith) refl (reads refl (omega arith) refl (reads refl (omega arith) refl (ninth refl (omega arith))))))))))),
    idle nowhere (calm finer₉ B1 refl sum_calm)
        (ran (apart₁ (λ e. absurd (omega arith))) (fresh finer₉ C1 refl refl refl) (never refl refl) end),
  ),
)

fine₁₁ : Lawful 0 no_locks stands 1 finer₁₁
unfolding Lawful Right finer₁ finer₂ finer₃ finer₄ finer₅ finer₆ finer₇ finer₈ finer₉ finer₁₀ finer₁₁ defs changed
fine₁₁ = (fine₁₀, omega arith, clear_fine no_locks stands finer₁₀ B1 refl)

more_cause : Cause 0 finer₁₁ C1 B1
unfolding finer₁ finer₂ finer₃ finer₄ finer₅ finer₆ finer₇ finer₈ finer₉ finer₁₀ finer₁₁ defs changed up_to last found or_else Touches
more_cause = touched refl refl (falls then refl (directly refl (first refl)))

pub finer_lawful : Lawful 0 no_locks stands 1 finer_sample
unfolding Lawful Right finer₁ finer₂ finer₃ finer₄ finer₅ finer₆ finer₇ finer₈ finer₉ finer₁₀ finer₁₁ finer_sample defs changed stored kept runs_of traces_of
finer_lawful = (
  fine₁₁,
  omega arith,
  (
    ok_query finer₁₁ C1,
    worked refl (more_reads (state 0 finer₁₁) (C1 ∷ []) 0 refl refl),
    ran nowhere (stale finer₁₁ C1 B1 B1 5 more_cause refl (first refl) refl (λ e. absurd (omega arith))) more_cause end,
  ),
)

-- the third past
pub refusals_lawful : Lawful 0 lock_a3 stands 1 refusal_sample
unfolding Lawful Right refusals refusal_sample defs changed lock_a3 stands
refusals_lawful = (
  (
    (
      (
        (
          (
            (
              (
                (
                  (
                    (
                      (
                        tt,
                        omega arith,
                        edit_locked lock_a3 stands _ A3 _ refl refl,
                      ),
                      omega arith,
                      edit_unread lock_a3 stands _ A1 _ refl refl,
                    ),
                    omega arith,
                    define_locked lock_a3 stands _ A3 [] refl,
                  ),
                  omega arith,
                  define_length lock_a3 stands _ B1 [] refl (inl refl),
                ),
                omega arith,
                define_length lock_a3 stands _ B1 (replicate (text_limit + 1) 65) refl (inr (omega arith)),
              ),
              omega arith,
              define_illegal lock_a3 stands _ B1 bad_text refl 3 (λ e. absurd (omega arith)) (λ e. absurd (omega arith)) refl,
            ),
            omega arith,
            clear_refused lock_a3 stands _ B1 refl,
          ),
          omega arith,
          (define_fine lock_a3 stands _ B1 half_text refl (λ e. absurd (omega arith)) (λ e. absurd (omega arith)) refl, refl),
        ),
        omega arith,
        edit_refused lock_a3 stands _ B1 _ refl,
      ),
      omega arith,
      query_refused lock_a3 stands _ B1 _ (inl (omega arith)),
    ),
    omega arith,
    query_refused lock_a3 stands _ B1 _ (inr (inl (omega arith))),
  ),
  omega arith,
  query_refused lock_a3 stands _ B1 _ (inr (inr (omega arith))),
)
