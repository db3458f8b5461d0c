-- A query in progress: what each step of the scheduler comes to.
use Rattle.std.proofs.Common.{◌≡◌, ℕ, zero, suc, ◌<◌, ◌≤◌, Bool, true, false, ◌⊎◌, List, [], ◌∷◌, ◌++◌, length, take, sym, refl, ap, ◌∙◌, subst, inl, inr, append_assoc, append-nil, arith, take-take}
use mathlib.Core.Option.{Option, none, some}
use native.Mathlib.Decide.{ℕ_discrete}
use Rattle.std.proofs.lemmas.Bool.{eq-eqb, ne_eqb}
use Rattle.interfaces.specs.Cells.{ask_limit}
use Rattle.interfaces.specs.Tasks.{asks, gives, faults, Def, Verdict}
use Rattle.interfaces.specs.Traces.{Pair, Trace, runs, keeps, next}
use Rattle.past.specs.Afresh.{In, first, later, Finishing, Log, Layer, engine, language, Outcome, gave, fault, values, Steps, finishes, breaks, ninth, circle, reads, descends, sinks, Afresh, input, worked}
use Rattle.past.specs.Past.{Past, Run, changed, cells, found, or_else, result_or, Reaches, defs, last, traces_of, runs_of, kept, stored, state, Cause, never, touched, InDoubt, Fits, Runs, Report}
use Rattle.past.specs.Law.{Lawful}
use Rattle.past.proofs.Lists.{no_some, in_left, in_right, in_both, in_one, ends_one}
use Rattle.past.proofs.Alone.{alike, none_some, afresh_alone}
use Rattle.past.proofs.Whole.{all_whole, found_here, found_past, found_in}
use Rattle.past.proofs.Cert.{Finished, of, works}
use Rattle.past.proofs.Elsewhere.{off, own, elsewhere}
use Rattle.past.proofs.Fitting.{Follows, done, step, taken}
use Rattle.past.proofs.Since.{changed_here, changed_away}
use Rattle.past.proofs.Doubt.{alive, Settled, settled_good, settled_sure, sure_settled}
use Rattle.past.proofs.Kept.{source, kept_follows, in_take}
use Rattle.view.specs.View.{View, asked_in}
use Rattle.midway.specs.Planning.{Plans, to_run, to_keep, to_ask}
use Rattle.midway.specs.Midway.{Distinct, Full, Ended, Asking, begun, then_asked, Mid, Rightly, Sooner, Ready, Followed, Open, Brought}
use Rattle.midway.proofs.Logs.{found_left, found_skip, not_found, on_cells, started, whole_full, full_left, full_both}
use Rattle.midway.proofs.Reports.{report_on, report_run_lem}
use Rattle.midway.proofs.Again.{less, unread, unasked}

module _ {M : Type 0} (blank : M) (locks : ℕ → Bool) (stands : List ℕ → Verdict M) (depth : ℕ) (same : (v w : M) → Dec (v ≡ w)) where
  module _ (p : Past M) (h : Lawful blank locks stands depth p) where
    -- a finishing of a cell that was not in doubt before the query is its last one
    still_so : {l : Log M} {f : Finishing M} → Full (state blank p) l f → ¬ InDoubt blank p f.cell → (last p f.cell ≡ some f) × (stored blank p f.cell ≡ f.result)
    still_so {l} {f} w n =
        let t = sure_settled blank locks stands depth same p f.cell w.def_is n in
        let good = settled_good blank locks stands depth same p h f.cell t.0 t.1 in
        let g = of (state blank p) (last p) (alive blank locks stands depth same p h) good.certified in
        let k = works (state blank p) (last p) (alive blank locks stands depth same p h) good.certified w.def_is g.1 [] (λ z u i. elim i [ ]) in
        let m = alike (state blank p) refl refl refl k.steps w.steps in
        let same_f : g.0 ≡ f = ends_one m.0 k.ends (record { pre = w.before; is = refl }) in
        (g.1 ∙ ap some same_f, g.2 ∙ ap (λ z. z.result) same_f)

    -- the cell is finished in the log or was not in doubt before the query
    abbrev pub Calm : Log M → ℕ → Type 0
    Calm l x = ¬ (found l x ≡ none) ⊎ ¬ InDoubt blank p x

    module _ (l : Log M) (r : List (Run M)) (w : View M) (mid : Mid blank locks depth p l r w) where
      -- more finishings of calm cells: the workbook shows the same
      pub quiet : (m : Log M) → ((f : Finishing M) → In f m → Full (state blank p) m f) → ((f : Finishing M) → In f m → Calm l f.cell) → Mid blank locks depth p (l ++ m) r w
      unfolding result_or or_else Runs
      quiet m full calm = record {
        full = full_both (state blank p) l m mid.full full;
        report = report_on blank depth p mid.report m (λ f i. not_run f (calm f i));
        values_are = λ x. mid.values_are x ∙ (value x (found l x) refl);
        defs_are = mid.defs_are;
        marks_are = mid.marks_are;
        traces_are = mid.traces_are;
        doubts = λ x y e. let k = mid.doubts x y e in (found_skip l m x k.0 ∙ not_found m x (λ f i q. unfound f x y q k.0 k.1 (calm f i)), k.1);
        calm = λ x e n. mid.calm x e (gone x n (found l x) refl);
        asked_are = λ x. mid.asked_are x ∙ ap asked_in (lasts x (found l x) refl);
        locks_are = mid.locks_are;
      }
        where
          not_run : (f : Finishing M) → Calm l f.cell → In f.cell [] ⊎ (¬ (found l f.cell ≡ none) ⊎ ¬ Runs blank depth p f.cell)
          not_run f (inl z) = inr (inl z)
          not_run f (inr z) = inr (inr (λ u. z u.0))

          unfound : (f : Finishing M) (x y : ℕ) → f.cell ≡ x → found l x ≡ none → Cause blank p x y → Calm l f.cell → ⊥
          unfound f x y q n c (inl z) = z (ap (found l) q ∙ n)
          unfound f x y q n c (inr z) = z (subst (λ v. InDoubt blank p v) (sym q) (y, c))

          gone : (x : ℕ) → found (l ++ m) x ≡ none → (z : Option (Finishing M)) → found l x ≡ z → found l x ≡ none
          gone x n none e = e
          gone x n (some f) e = absurd (no_some (sym n ∙ found_left l m x e))

          so : (x : ℕ) {f : Finishing M} → found l x ≡ none → found m x ≡ some f → (last p x ≡ some f) × (stored blank p x ≡ f.result)
          so x {f} n e = look (calm f k.0)
            where
              k : In f m × (f.cell ≡ x)
              k = found_in m x e

              look : Calm l f.cell → (last p x ≡ some f) × (stored blank p x ≡ f.result)
              look (inl z) = absurd (z (ap (found l) k.1 ∙ n))
              look (inr z) = let s = still_so (full f k.0) z in (ap (last p) (sym k.1) ∙ s.0, ap (stored blank p) (sym k.1) ∙ s.1)

          value : (x : ℕ) (z : Option (Finishing M)) → found l x ≡ z → result_or (found l x) (stored blank p x) ≡ result_or (found (l ++ m) x) (stored blank p x)
          value x (some f) e = ap (λ z. result_or z (stored blank p x)) (e ∙ sym (found_left l m x e))
          value x none e = ap (λ z. result_or z (stored blank p x)) e ∙ more (found m x) refl ∙ ap (λ z. result_or z (stored blank p x)) (sym (found_skip l m x e))
            where
              more : (z : Option (Finishing M)) → found m x ≡ z → stored blank p x ≡ result_or (found m x) (stored blank p x)
              more none k = ap (λ z. result_or z (stored blank p x)) (sym k)
              more (some f) k = (so x e k).1 ∙ ap (λ z. result_or z (stored blank p x)) (sym k)

          lasts : (x : ℕ) (z : Option (Finishing M)) → found l x ≡ z → or_else (found l x) (last p x) ≡ or_else (found (l ++ m) x) (last p x)
          lasts x (some f) e = ap (λ z. or_else z (last p x)) (e ∙ sym (found_left l m x e))
          lasts x none e = ap (λ z. or_else z (last p x)) e ∙ more (found m x) refl ∙ ap (λ z. or_else z (last p x)) (sym (found_skip l m x e))
            where
              more : (z : Option (Finishing M)) → found m x ≡ z → last p x ≡ or_else (found m x) (last p x)
              more none k = ap (λ z. or_else z (last p x)) (sym k)
              more (some f) k = (so x e k).0 ∙ ap (λ z. or_else z (last p x)) (sym k)

      -- a settled cell, asked for on a path of cells in doubt
      pub record Calmly (path : List ℕ) (a : ℕ) (e : Def M) : Type 0 where
        pub log : Log M
        pub off_path : ¬ In a path
        pub steps : Steps (state blank p) (path ++ (a ∷ [])) a e [] log (gave (w.stored a))
        pub mid_is : Mid blank locks depth p (l ++ log) r w
        pub still : (y : ℕ) → In y path → found (l ++ log) y ≡ none

      pub ask_calm : (path : List ℕ) → ((y : ℕ) → In y path → (found l y ≡ none) × InDoubt blank p y) → (a : ℕ) (e : Def M) → defs p a ≡ some e → w.cause a ≡ none → Calmly path a e
      unfolding result_or
      ask_calm path doubts a e s c = go (found l a) refl
        where
          make : (log : Log M) (v : M) → Afresh (state blank p) [] a log (gave v) → v ≡ w.stored a → ((f : Finishing M) → In f log → Calm l f.cell) → Calmly path a e
          make log v af is calm = record {
            log = log;
            off_path = λ o. let m = own (state blank p) t in clash m.0 m.1 (subst (λ z. In z path) (sym m.2) o);
            steps = subst (λ z. Steps (state blank p) (path ++ (a ∷ [])) a e [] log (gave z)) is t;
            mid_is = quiet log (λ f i. whole_full (state blank p) (all_whole (state blank p) af i)) calm;
            still = λ y o. found_skip l log y (doubts y o).0 ∙ not_found log y (λ f i q. clash f i (subst (λ z. In z path) (sym q) o));
          }
            where
              clash : (f : Finishing M) → In f log → In f.cell path → ⊥
              clash f i o = split (calm f i)
                where
                  split : Calm l f.cell → ⊥
                  split (inl z) = z (doubts f.cell o).0
                  split (inr z) = z (doubts f.cell o).1

              t : Steps (state blank p) (path ++ (a ∷ [])) a e [] log (gave v)
              t = taken (state blank p) s (elsewhere (state blank p) af path clash)

          go : (z : Option (Finishing M)) → found l a ≡ z → Calmly path a e
          go (some f) k =
              make (q.before ++ (f ∷ [])) f.result af (sym (mid.values_are a ∙ ap (λ z. result_or z (stored blank p a)) k)) (λ g i. inl (on_cells l g.cell (inside g (in_both q.before i)) refl))
            where
              i : In f l × (f.cell ≡ a)
              i = found_in l a k

              q : Full (state blank p) l f
              q = mid.full f i.0

              inside : (g : Finishing M) → In g q.before ⊎ In g (f ∷ []) → In g l
              inside g (inl j) = q.within g j
              inside g (inr (first z)) = subst (λ y. In y l) (sym z) i.0
              inside g (inr (later j)) = elim j [ ]

              af : Afresh (state blank p) [] a (q.before ++ (f ∷ [])) (gave f.result)
              af = subst (λ z. Afresh (state blank p) [] z (q.before ++ (f ∷ [])) (gave f.result)) i.1
                  (elsewhere (state blank p) (started (state blank p) q.on_path q.def_is q.steps) [] (λ g j o. elim o [ ]))
          go none k =
              make fin.log g.0.result (worked s fin.steps) (sym g.2 ∙ sym (mid.values_are a ∙ ap (λ z. result_or z (stored blank p a)) k)) (λ f i. inr (below f (fin.inside f i)))
            where
              sure : ¬ InDoubt blank p a
              sure = mid.calm a c k

              t : (t : Past M) × Settled blank locks stands depth same p a t
              t = sure_settled blank locks stands depth same p a s sure

              g : (g : Finishing M) × (last p a ≡ some g) × (stored blank p a ≡ g.result)
              g = of (state blank p) (last p) (alive blank locks stands depth same p h) (settled_good blank locks stands depth same p h a t.0 t.1).certified

              fin : Finished (state blank p) (last p) (alive blank locks stands depth same p h) (a ∷ []) a e g.0 []
              fin = works (state blank p) (last p) (alive blank locks stands depth same p h) (settled_good blank locks stands depth same p h a t.0 t.1).certified s g.1 [] (λ z u i. elim i [ ])

              below : (f : Finishing M) → (f.cell ≡ a) ⊎ Reaches (last p) a f.cell → ¬ InDoubt blank p f.cell
              below f (inl z) d = sure (subst (λ y. InDoubt blank p y) z d)
              below f (inr z) d = under d.1
                where
                  under : {y : ℕ} → Cause blank p f.cell y → ⊥
                  under (never {d = e'} u _) = settled_sure blank locks stands depth same ((settled_good blank locks stands depth same p h a t.0 t.1).below f.cell z e' u).1 d
                  under (touched {d = e'} u _ _) = settled_sure blank locks stands depth same ((settled_good blank locks stands depth same p h a t.0 t.1).below f.cell z e' u).1 d

      found_other : (f : Finishing M) (k : ℕ) → ¬ (k ≡ f.cell) → found (l ++ (f ∷ [])) k ≡ found l k
      unfolding found
      found_other f k n = go (found l k) refl
        where
          go : (z : Option (Finishing M)) → found l k ≡ z → found (l ++ (f ∷ [])) k ≡ found l k
          go none e = found_skip l (f ∷ []) k e ∙ found_past f [] k n ∙ sym e
          go (some g) e = found_left l (f ∷ []) k e ∙ sym e

      module _ (f : Finishing M) (w' : View M) (ch : Ended w w' f.cell f.result (cells f.asks)) (new : found l f.cell ≡ none) (full : Full (state blank p) (l ++ (f ∷ [])) f)
          (r' : List (Run M)) (rep : Report blank depth p [] (l ++ (f ∷ [])) r') (tr : (k : ℕ) → w'.traces k ≡ take depth (traces_of r' k ++ runs_of p k)) where
        here : (k : ℕ) → k ≡ f.cell → found (l ++ (f ∷ [])) k ≡ some f
        here k e = found_skip l (f ∷ []) k (ap (found l) e ∙ new) ∙ found_here f [] k e

        ended : Mid blank locks depth p (l ++ (f ∷ [])) r' w'
        unfolding result_or or_else
        ended = record {
          full = fulls;
          report = rep;
          values_are = λ k. value k (ℕ_discrete k f.cell);
          defs_are = λ k. ch.defs_is k ∙ mid.defs_are k;
          marks_are = λ k. ch.marked_is k ∙ mid.marks_are k;
          traces_are = tr;
          doubts = λ k y e. doubt k y e (ℕ_discrete k f.cell);
          calm = λ k e n. calm' k e n (ℕ_discrete k f.cell);
          asked_are = λ k. asked' k (ℕ_discrete k f.cell);
          locks_are = λ k. ch.locked_is k ∙ mid.locks_are k;
        }
          where
            fulls : (g : Finishing M) → In g (l ++ (f ∷ [])) → Full (state blank p) (l ++ (f ∷ [])) g
            fulls g i = go (in_both l i)
              where
                go : In g l ⊎ In g (f ∷ []) → Full (state blank p) (l ++ (f ∷ [])) g
                go (inl j) = full_left (state blank p) (f ∷ []) (mid.full g j)
                go (inr (first e)) = subst (λ z. Full (state blank p) (l ++ (f ∷ [])) z) (sym e) full
                go (inr (later j)) = elim j [ ]

            value : (k : ℕ) → Dec (k ≡ f.cell) → w'.stored k ≡ result_or (found (l ++ (f ∷ [])) k) (stored blank p k)
            value k (yes e) = ch.stored_is k ∙ changed_here f.cell f.result w.stored k e ∙ ap (λ z. result_or z (stored blank p k)) (sym (here k e))
            value k (no n) = ch.stored_is k ∙ changed_away f.cell f.result w.stored k n ∙ mid.values_are k ∙ ap (λ z. result_or z (stored blank p k)) (sym (found_other f k n))

            doubt : (k y : ℕ) → w'.cause k ≡ some y → Dec (k ≡ f.cell) → (found (l ++ (f ∷ [])) k ≡ none) × Cause blank p k y
            doubt k y e (yes q) = absurd (no_some (sym (ch.cause_is k ∙ changed_here f.cell none w.cause k q) ∙ e))
            doubt k y e (no n) = let z = mid.doubts k y (sym (ch.cause_is k ∙ changed_away f.cell none w.cause k n) ∙ e) in (found_other f k n ∙ z.0, z.1)

            calm' : (k : ℕ) → w'.cause k ≡ none → found (l ++ (f ∷ [])) k ≡ none → Dec (k ≡ f.cell) → ¬ InDoubt blank p k
            calm' k e n (yes q) i = no_some (sym n ∙ here k q)
            calm' k e n (no m) i = mid.calm k (sym (ch.cause_is k ∙ changed_away f.cell none w.cause k m) ∙ e) (sym (found_other f k m) ∙ n) i

            asked' : (k : ℕ) → Dec (k ≡ f.cell) → w'.asked k ≡ asked_in (or_else (found (l ++ (f ∷ [])) k) (last p k))
            asked' k (yes e) = ch.asked_is k ∙ changed_here f.cell (cells f.asks) w.asked k e ∙ ap (λ z. asked_in (or_else z (last p k))) (sym (here k e))
            asked' k (no n) = ch.asked_is k ∙ changed_away f.cell (cells f.asks) w.asked k n ∙ mid.asked_are k ∙ ap (λ z. asked_in (or_else z (last p k))) (sym (found_other f k n))

      -- the traces of a cell that this query has not finished are those from before
      no_traces : (x : ℕ) → found l x ≡ none → traces_of r x ≡ []
      no_traces x n = go (traces_of r x) refl
        where
          go : (z : List (Trace M)) → traces_of r x ≡ z → traces_of r x ≡ []
          go [] e = e
          go (t ∷ ts) e = let s = source blank locks stands depth mid.report x t (subst (λ z. In t z) (sym e) (first refl)) in absurd (on_cells l x s.inside s.cell_is n)

      pub traces_old : (x : ℕ) → found l x ≡ none → w.traces x ≡ kept depth p x
      unfolding kept
      traces_old x n = mid.traces_are x ∙ ap (λ z. take depth (z ++ runs_of p x)) (no_traces x n)

      module _ (path : List ℕ) (x : ℕ) (d : Def M) (pairs : List (Pair M)) (running : Bool) (ready : Ready blank locks depth p l path x d pairs running) where
        fresh : found l x ≡ none
        fresh = (ready.path_doubts x ready.on_path).0

        abbrev own_finishing : M → Finishing M
        own_finishing v = record { cell = x; asks = pairs; result = v }

        own_full : (v : M) → d (values pairs) ≡ gives v → Full (state blank p) (l ++ (own_finishing v ∷ [])) (own_finishing v)
        own_full v e = record {
          path = path;
          d = d;
          before = ready.since;
          def_is = ready.def_is;
          on_path = ready.on_path;
          steps = ready.back _ _ (finishes e);
          within = λ g i. subst (λ z. In g (z ++ (own_finishing v ∷ []))) (sym ready.log_is) (in_left (own_finishing v ∷ []) (in_right ready.early i));
        }

        stays : (o : Outcome M) → Steps (state blank p) path x d pairs [] o → (g : Followed blank locks depth p l r path x d pairs w o) × (g.report ≡ [])
        stays o t = (record { log = []; report = []; steps = t; mid = subst (λ z. Mid blank locks depth p z (r ++ []) w) (sym (append-nil l)) (subst (λ z. Mid blank locks depth p l z w) (sym (append-nil r)) mid) }, refl)

        pub follow_fails : (n m : ℕ) → d (values pairs) ≡ faults n m → (g : Followed blank locks depth p l r path x d pairs w (fault n m x language path)) × (g.report ≡ [])
        follow_fails n m e = stays _ (breaks e)

        pub follow_ninth : (a : ℕ) → d (values pairs) ≡ asks a → ask_limit ≤ length pairs → (g : Followed blank locks depth p l r path x d pairs w (fault 17 a x engine path)) × (g.report ≡ [])
        follow_ninth a e s = stays _ (ninth e s)

        pub follow_circle : (a : ℕ) {e' : Def M} → d (values pairs) ≡ asks a → length pairs < ask_limit → defs p a ≡ some e' → In a path → (g : Followed blank locks depth p l r path x d pairs w (fault 16 a x engine path)) × (g.report ≡ [])
        follow_circle a e s u o = stays _ (circle e s u o)

        in_cons : {A : Type 0} (t : A) (newer older : List A) {ts : List A} → ts ≡ newer ++ (t ∷ older) → In t ts
        in_cons t newer older e = subst (λ z. In t z) (sym e) (in_right newer (first refl))

        follows_end : {had rest : List (Pair M)} {v : M} → Follows d had rest v → d (values (had ++ rest)) ≡ gives v
        follows_end {had} {v = v} (done e) = subst (λ z. d (values z) ≡ gives v) (sym (append-nil had)) e
        follows_end {had} {v = v} (step {rest = rest} {q = q} _ _ k) = subst (λ z. d (values z) ≡ gives v) (append_assoc had (q ∷ []) rest) (follows_end k)

        follows_next : (mine : List (Pair M)) (q : Pair M) (rest : List (Pair M)) {had all : List (Pair M)} {v : M} → Follows d had all v → all ≡ mine ++ (q ∷ rest) → (d (values (had ++ mine)) ≡ asks q.cell) × (length (had ++ mine) < ask_limit)
        follows_next [] q rest (done e) k = let z : ◌≡◌ {A = ℕ} 0 1 = cc in absurd (omega arith)
        follows_next (m ∷ mine) q rest (done e) k = let z : ◌≡◌ {A = ℕ} 0 1 = cc in absurd (omega arith)
        follows_next [] q rest {had} (step {q = q'} e s f) k = let z : q' ≡ q = cc in (subst (λ y. d (values y) ≡ asks q.cell) (sym (append-nil had)) (e ∙ ap (λ y. asks y.cell) z), subst (λ y. length y < ask_limit) (sym (append-nil had)) s)
        follows_next (m ∷ mine) q rest {had} (step {q = q'} e s f) k =
            let z : q' ≡ m = cc in
            let u = follows_next mine q rest f (cc) in
            let a : (had ++ (q' ∷ [])) ++ mine ≡ had ++ (m ∷ mine) = append_assoc had (q' ∷ []) mine ∙ ap (λ y. had ++ (y ∷ mine)) z in
            (subst (λ y. d (values y) ≡ asks q.cell) a u.0, subst (λ y. length y < ask_limit) a u.1)

        kept_way : (t : Trace M) → In t (w.traces x) → Follows d [] t.asks t.result × In t (kept depth p x)
        unfolding kept
        kept_way t i = let j = subst (λ z. In t z) (traces_old x fresh) i in (kept_follows blank locks stands depth p h x d t ready.def_is (in_take blank locks stands depth depth (runs_of p x) j), j)

        only : (v : M) (f : Finishing M) → In f (own_finishing v ∷ []) → f.cell ≡ x
        only v f (first e) = ap (λ z. z.cell) e
        only v f (later i) = elim i [ ]

        -- the plan keeping a result: afresh finishes it, and the cell does not run
        pub follow_keep : (v : M) (w' : View M) → Plans (w.traces x) pairs (keeps v) → Ended w w' x v (cells pairs) → ((k : ℕ) → w'.traces k ≡ w.traces k) → (g : Followed blank locks depth p l r path x d pairs w' (gave v)) × (g.report ≡ [])
        unfolding Runs Fits
        follow_keep v w' (to_keep t newer older e q _) ch tr =
            let k = kept_way t (in_cons t newer older e) in
            let g : d (values pairs) ≡ gives t.result = subst (λ z. d (values z) ≡ gives t.result) q (follows_end k.0) in (
              record {
                log = own_finishing v ∷ [];
                report = [];
                steps = finishes g;
                mid = ended (own_finishing v) w' ch fresh (own_full v g) (r ++ [])
                    (subst (λ z. Report blank depth p [] (l ++ (own_finishing v ∷ [])) z) (sym (append-nil r)) (report_on blank depth p mid.report (own_finishing v ∷ []) (λ f i. inr (inr (subst (λ z. ¬ Runs blank depth p z) (sym (only v f i)) (λ u. u.1 t k.1 (λ y j. ready.rights y (subst (λ z. In y z) q j))))))))
                    (λ y. tr y ∙ mid.traces_are y ∙ ap (λ z. take depth (traces_of z y ++ runs_of p y)) (sym (append-nil r)));
              },
              refl,
            )

        -- the plan asks: so does the definition
        pub plan_next : {a : ℕ} → Plans (w.traces x) pairs (next a) → (d (values pairs) ≡ asks a) × (length pairs < ask_limit)
        plan_next (to_ask t newer older q rest _ e s _) = follows_next pairs q rest (kept_way t (in_cons t newer older e)).0 s

        one_value : {q q' : Pair M} → q.cell ≡ q'.cell → Rightly blank locks depth p q → Rightly blank locks depth p q' → q ≡ q'
        one_value {q} {q'} e (m, a) (m', a') = pair (unwrap (afresh_alone (state blank p) (subst (λ z. Afresh (state blank p) [] z m (gave q.value)) e a) a').1)
          where
            unwrap : gave q.value ≡ gave q'.value → q.value ≡ q'.value
            unwrap k = cc

            pair : q.value ≡ q'.value → q ≡ q'
            pair k = λ i. record { cell = e i; value = k i }

        begins : {had mine theirs : List (Pair M)} {v : M} → Asking d had mine → Follows d had theirs v
            → ((q : Pair M) → In q mine → Rightly blank locks depth p q)
            → ((q : Pair M) → In q theirs → Rightly blank locks depth p q)
            → (rest : List (Pair M)) × (theirs ≡ mine ++ rest)
        begins {theirs = theirs} begun f k k' = (theirs, refl)
        begins (then_asked e s a) (done g) k k' = let z : ◌≡◌ {A = ℕ} 0 1 = cc in absurd (omega arith)
        begins {had} {v = v} (then_asked {rest = mine} {q = q} e s a) (step {rest = theirs} {q = q'} e' s' f) k k' =
            let c : q.cell ≡ q'.cell = cc in
            let z : q ≡ q' = one_value c (k q (first refl)) (k' q' (first refl)) in
            let u = begins a (subst (λ y. Follows d (had ++ (y ∷ [])) theirs v) (sym z) f) (λ y i. k y (later i)) (λ y i. k' y (later i)) in
            (u.0, ap (λ y. y ∷ theirs) (sym z) ∙ ap (λ y. q ∷ y) u.1)

        -- the plan is to run: no kept trace fits
        pub plan_run : Plans (w.traces x) pairs runs → Ready blank locks depth p l path x d [] true
        unfolding Fits
        plan_run (to_run n) = record {
          def_is = ready.def_is;
          on_path = ready.on_path;
          distinct = ready.distinct;
          path_doubts = ready.path_doubts;
          early = l;
          since = [];
          log_is = sym (append-nil l);
          back = λ m o t. t;
          forth = λ m o t. record { rest = m; is = refl; steps = t };
          asking = begun;
          rights = λ q i. elim i [ ];
          none_fits = λ _ t i f. let j = subst (λ z. In t z) (sym (traces_old x fresh)) i in let k = begins ready.asking (kept_way t j).0 ready.rights f in n t j (record { rest = k.0; is = k.1 });
        }

        -- what the run comes to, begun anew, the cell comes to from the pairs of the plan
        pub run_over : (w' : View M) (o : Outcome M) (f : Followed blank locks depth p l r path x d [] w' o) → (g : Followed blank locks depth p l r path x d pairs w' o) × (g.report ≡ f.report)
        run_over w' o f =
            let u = ready.forth f.log o f.steps in (
              record {
                log = u.rest;
                report = f.report;
                steps = u.steps;
                mid = less blank locks depth p l ready.since u.rest (λ g i. subst (λ z. In g z) (sym ready.log_is) (in_right ready.early i))
                    (subst (λ z. Mid blank locks depth p (l ++ z) (r ++ f.report) w') u.is f.mid);
              },
              refl,
            )

        traces_app : (y : ℕ) (r₁ r₂ : List (Run M)) → traces_of (r₁ ++ r₂) y ≡ traces_of r₁ y ++ traces_of r₂ y
        unfolding traces_of
        traces_app y [] r₂ = refl
        traces_app y (a ∷ r₁) r₂ = go (ℕ_discrete y a.cell) (traces_app y r₁ r₂)
          where
            go : Dec (y ≡ a.cell) → traces_of (r₁ ++ r₂) y ≡ traces_of r₁ y ++ traces_of r₂ y → traces_of (a ∷ (r₁ ++ r₂)) y ≡ traces_of (a ∷ r₁) y ++ traces_of r₂ y
            go (yes e) ih = rw (eq-eqb y a.cell e) (ap (λ z. a.trace ∷ z) ih)
            go (no n) ih = rw (ne_eqb y a.cell n) ih

        traces_one : (y : ℕ) (a : Run M) → y ≡ a.cell → traces_of (a ∷ []) y ≡ a.trace ∷ []
        unfolding traces_of
        traces_one y a e = rw (eq-eqb y a.cell e) refl

        traces_other : (y : ℕ) (a : Run M) → ¬ (y ≡ a.cell) → traces_of (a ∷ []) y ≡ []
        unfolding traces_of
        traces_other y a n = rw (ne_eqb y a.cell n) refl

        cut : {A : Type 0} (n : ℕ) (a : A) (xs : List A) → take n (a ∷ take n xs) ≡ take n (a ∷ xs)
        cut zero a xs = refl
        cut (suc n) a xs = ap (λ z. a ∷ z) (take-take n (suc n) xs (omega arith))

        -- the definition finishes its value in a run
        pub follow_give : (v : M) (w' : View M) (y : ℕ) → running ≡ true → w.cause x ≡ some y → d (values pairs) ≡ gives v → Ended w w' x v (cells pairs)
            → ((k : ℕ) → w'.traces k ≡ changed x (take depth (record { asks = pairs; result = v } ∷ w.traces x)) w.traces k)
            → (g : Followed blank locks depth p l r path x d pairs w' (gave v)) × (g.report ≡ record { cell = x; cause = y; trace = record { asks = pairs; result = v } } ∷ [])
        unfolding Runs kept
        follow_give v w' y on c g ch tr = (
          record {
            log = own_finishing v ∷ [];
            report = a ∷ [];
            steps = finishes g;
            mid = ended (own_finishing v) w' ch fresh (own_full v g) (r ++ (a ∷ [])) (report_run_lem blank depth p mid.report (own_finishing v) (λ o. elim o [ ]) fresh ((y, cs), ready.none_fits on) cs) (λ k. traces k (ℕ_discrete k x));
          },
          refl,
        )
          where
            a : Run M
            a = record { cell = x; cause = y; trace = record { asks = pairs; result = v } }

            cs : Cause blank p x y
            cs = (mid.doubts x y c).1

            traces : (k : ℕ) → Dec (k ≡ x) → w'.traces k ≡ take depth (traces_of (r ++ (a ∷ [])) k ++ runs_of p k)
            traces k (yes e) = tr k ∙ changed_here x _ w.traces k e ∙ ap (λ z. take depth (a.trace ∷ z)) (traces_old x fresh) ∙ cut depth a.trace (runs_of p x)
                ∙ ap (λ z. take depth (z ++ runs_of p x)) (sym (traces_app x r (a ∷ []) ∙ ap (λ z. z ++ traces_of (a ∷ []) x) (no_traces x fresh) ∙ traces_one x a refl))
                ∙ ap (λ z. take depth (traces_of (r ++ (a ∷ [])) z ++ runs_of p z)) (sym e)
            traces k (no n) = tr k ∙ changed_away x _ w.traces k n ∙ mid.traces_are k
                ∙ ap (λ z. take depth (z ++ runs_of p k)) (sym (traces_app k r (a ∷ []) ∙ ap (λ z. traces_of r k ++ z) (traces_other k a n) ∙ append-nil (traces_of r k)))

        asking_on : (q : Pair M) {had mine : List (Pair M)} → Asking d had mine → d (values (had ++ mine)) ≡ asks q.cell → length (had ++ mine) < ask_limit → Asking d had (mine ++ (q ∷ []))
        asking_on q {had} begun e s = then_asked (subst (λ z. d (values z) ≡ asks q.cell) (append-nil had) e) (subst (λ z. length z < ask_limit) (append-nil had) s) begun
        asking_on q {had} (then_asked {rest = mine} {q = q'} e' s' k) e s =
            let a = append_assoc had (q' ∷ []) mine in
            then_asked e' s' (asking_on q k (subst (λ z. d (values z) ≡ asks q.cell) (sym a) e) (subst (λ z. length z < ask_limit) (sym a) s))

        -- one pair more: where the working-out goes on from
        pub record Onward (q : Pair M) (w₁ : View M) (Told-more : List (Run M)) : Type 0 where
          pub more : Log M
          pub ran_more : List (Run M)
          pub mid_on : Mid blank locks depth p (l ++ more) (r ++ ran_more) w₁
          pub ready_on : Ready blank locks depth p (l ++ more) path x d (pairs ++ (q ∷ [])) running
          pub join : (w₂ : View M) (o : Outcome M) → Followed blank locks depth p (l ++ more) (r ++ ran_more) path x d (pairs ++ (q ∷ [])) w₂ o → Followed blank locks depth p l r path x d pairs w₂ o
          pub joined : (w₂ : View M) (o : Outcome M) (f : Followed blank locks depth p (l ++ more) (r ++ ran_more) path x d (pairs ++ (q ∷ [])) w₂ o) → (join w₂ o f).report ≡ ran_more ++ f.report
          pub ran_is : ran_more ≡ Told-more

        on_from : (q : Pair M) (w₁ : View M) (more : Log M) (ran_more : List (Run M)) → d (values pairs) ≡ asks q.cell → length pairs < ask_limit → Mid blank locks depth p (l ++ more) (r ++ ran_more) w₁
            → ((m : Log M) (o : Outcome M) → Steps (state blank p) path x d (pairs ++ (q ∷ [])) m o → Steps (state blank p) path x d pairs (more ++ m) o)
            → ((m : Log M) (o : Outcome M) → Steps (state blank p) path x d pairs m o → Sooner (state blank p) path x d (pairs ++ (q ∷ [])) more m o)
            → ((y : ℕ) → In y path → found (l ++ more) y ≡ none)
            → Rightly blank locks depth p q
            → Onward q w₁ ran_more
        on_from q w₁ more ran_more e s mid₁ go ungo still right = record {
          more = more;
          ran_more = ran_more;
          mid_on = mid₁;
          ready_on = record {
            def_is = ready.def_is;
            on_path = ready.on_path;
            distinct = ready.distinct;
            path_doubts = λ y o. (still y o, (ready.path_doubts y o).1);
            early = ready.early;
            since = ready.since ++ more;
            log_is = ap (λ z. z ++ more) ready.log_is ∙ append_assoc ready.early ready.since more;
            back = λ m o t. subst (λ z. Steps (state blank p) path x d [] z o) (sym (append_assoc ready.since more m)) (ready.back (more ++ m) o (go m o t));
            forth = λ m o t. let u = ready.forth m o t in let v = ungo u.rest o u.steps in record { rest = v.rest; is = u.is ∙ ap (λ z. ready.since ++ z) v.is ∙ sym (append_assoc ready.since more v.rest); steps = v.steps };
            asking = asking_on q ready.asking e s;
            rights = λ y i. pick y (in_both pairs i);
            none_fits = ready.none_fits;
          };
          joined = λ w₂ o f. refl;
          ran_is = refl;
          join = λ w₂ o f. record {
            log = more ++ f.log;
            report = ran_more ++ f.report;
            steps = go f.log o f.steps;
            mid = subst (λ z. Mid blank locks depth p z (r ++ (ran_more ++ f.report)) w₂) (append_assoc l more f.log) (subst (λ z. Mid blank locks depth p ((l ++ more) ++ f.log) z w₂) (append_assoc r ran_more f.report) f.mid);
          };
        }
          where
            pick : (y : Pair M) → In y pairs ⊎ In y (q ∷ []) → Rightly blank locks depth p y
            pick y (inl j) = ready.rights y j
            pick y (inr (first z)) = subst (λ u. Rightly blank locks depth p u) (sym z) right
            pick y (inr (later j)) = elim j [ ]

        onward_afresh : (a : ℕ) {log : Log M} {v : M} (w₁ : View M) (rep : List (Run M)) → d (values pairs) ≡ asks a → length pairs < ask_limit → ((e' : Def M) → defs p a ≡ some e' → ¬ In a path)
            → Afresh (state blank p) path a log (gave v) → Mid blank locks depth p (l ++ log) (r ++ rep) w₁ → Onward (record { cell = a; value = v }) w₁ rep
        onward_afresh a w₁ rep e s n (input u) k = on_from (record { cell = a; value = stored blank p a }) w₁ [] rep e s k (λ m o t. reads e s u t) (λ m o t. record { rest = m; is = refl; steps = unread (state blank p) e s u t })
            (λ y o. ap (λ z. found z y) (append-nil l) ∙ (ready.path_doubts y o).0) ([], input u)
        onward_afresh a {log} {v} w₁ rep e s n (worked {d = e'} u t) k = on_from (record { cell = a; value = v }) w₁ log rep e s k (λ m o t'. descends e s u (n e' u) t t') (λ m o t'. let k = unasked (state blank p) e s u (n e' u) t t' in record { rest = k.0; is = k.1; steps = k.2 })
            (λ y o. found_skip l log y (ready.path_doubts y o).0 ∙ not_found log y (λ g i q. away y o g q (off (state blank p) t i))) (log, started (state blank p) (in_right path (first refl)) u t)
          where
            away : (y : ℕ) → In y path → (g : Finishing M) → g.cell ≡ y → (g.cell ≡ a) ⊎ ¬ In g.cell (path ++ (a ∷ [])) → ⊥
            away y o g q (inl z) = n e' u (subst (λ v. In v path) (sym q ∙ z) o)
            away y o g q (inr z) = z (in_left (a ∷ []) (subst (λ v. In v path) (sym q) o))

        -- what was asked for has come
        pub onward : (a : ℕ) (v : M) (w₁ : View M) → d (values pairs) ≡ asks a → length pairs < ask_limit → (f : Brought blank locks depth p l r path a w₁ (gave v)) → Onward (record { cell = a; value = v }) w₁ f.report
        onward a v w₁ e s f = onward_afresh a w₁ f.report e s f.off_path f.afresh f.mid

        sinks_afresh : (a : ℕ) {log : Log M} {n m at : ℕ} {layer : Layer} {chain : List ℕ} → d (values pairs) ≡ asks a → length pairs < ask_limit → ((e' : Def M) → defs p a ≡ some e' → ¬ In a path)
            → Afresh (state blank p) path a log (fault n m at layer chain) → Steps (state blank p) path x d pairs log (fault n m at layer chain)
        sinks_afresh a e s o (worked {d = e'} u t) = sinks e s u (o e' u) t

        -- or it faulted
        pub follow_sinks : (a : ℕ) (w₁ : View M) (n m at : ℕ) (layer : Layer) (chain : List ℕ) → d (values pairs) ≡ asks a → length pairs < ask_limit
            → (f : Brought blank locks depth p l r path a w₁ (fault n m at layer chain)) → (g : Followed blank locks depth p l r path x d pairs w₁ (fault n m at layer chain)) × (g.report ≡ f.report)
        follow_sinks a w₁ n m at layer chain e s f = (record { log = f.log; report = f.report; steps = sinks_afresh a e s f.off_path f.afresh; mid = f.mid }, refl)

        -- the cell asked for may be brought up to date, unless it is on the path
        pub open_below : (a : ℕ) → ((y : ℕ) → w.cause a ≡ some y → ¬ In a path) → Open blank locks depth p l w path a
        open_below a n = record { distinct = ready.distinct; path_doubts = ready.path_doubts; off_path = n }

      module _ (path : List ℕ) (a : ℕ) (open' : Open blank locks depth p l w path a) where
        -- an input, or a cell that is not in doubt, is read
        pub brought_read : w.cause a ≡ none → (g : Brought blank locks depth p l r path a w (gave (w.stored a))) × (g.report ≡ [])
        unfolding result_or
        brought_read c = go (defs p a) refl
          where
            go : (z : Option (Def M)) → defs p a ≡ z → (g : Brought blank locks depth p l r path a w (gave (w.stored a))) × (g.report ≡ [])
            go none u = (
              record {
                log = [];
                report = [];
                afresh = subst (λ z. Afresh (state blank p) path a [] (gave z)) (sym is) (input u);
                off_path = λ e' k. absurd (none_some (state blank p) refl u k);
                mid = subst (λ z. Mid blank locks depth p z (r ++ []) w) (sym (append-nil l)) (subst (λ z. Mid blank locks depth p l z w) (sym (append-nil r)) mid);
              },
              refl,
            )
              where
                unfound : (z : Option (Finishing M)) → found l a ≡ z → found l a ≡ none
                unfound none k = k
                unfound (some f) k = let i = found_in l a k in let t = mid.full f i.0 in absurd (none_some (state blank p) (sym i.1) u t.def_is)

                is : w.stored a ≡ stored blank p a
                is = mid.values_are a ∙ ap (λ z. result_or z (stored blank p a)) (unfound (found l a) refl)
            go (some e') u =
                let k = ask_calm path open'.path_doubts a e' u c in
                (record { log = k.log; report = []; afresh = worked u k.steps; off_path = λ _ _. k.off_path; mid = subst (λ z. Mid blank locks depth p (l ++ k.log) z w) (sym (append-nil r)) k.mid_is }, refl)

        cause_def : {y : ℕ} → Cause blank p a y → (e : Def M) × (defs p a ≡ some e)
        cause_def (never {d = e} u _) = (e, u)
        cause_def (touched {d = e} u _ _) = (e, u)

        distinct_snoc : (path : List ℕ) → Distinct path → ¬ In a path → Distinct (path ++ (a ∷ []))
        distinct_snoc [] u n = ((λ i. elim i [ ]), tt)
        distinct_snoc (z ∷ path) u n = ((λ i. split (in_both path i)), distinct_snoc path u.1 (λ i. n (later i)))
          where
            split : In z path ⊎ In z (a ∷ []) → ⊥
            split (inl i) = u.0 i
            split (inr i) = n (first (sym (in_one i)))

        -- a cell in doubt is followed, from no pairs on
        pub ready_below : (y : ℕ) → w.cause a ≡ some y → (e : Def M) × Ready blank locks depth p l (path ++ (a ∷ [])) a e [] false
        ready_below y c = let e = cause_def (mid.doubts a y c).1 in (
          e.0,
          record {
            def_is = e.1;
            on_path = in_right path (first refl);
            distinct = distinct_snoc path open'.distinct (open'.off_path y c);
            path_doubts = λ z o. pick z (in_both path o);
            early = l;
            since = [];
            log_is = sym (append-nil l);
            back = λ m o t. t;
            forth = λ m o t. record { rest = m; is = refl; steps = t };
            asking = begun;
            rights = λ q i. elim i [ ];
            none_fits = λ k. absurd (flip k);
          },
        )
          where
            pick : (z : ℕ) → In z path ⊎ In z (a ∷ []) → (found l z ≡ none) × InDoubt blank p z
            pick z (inl o) = open'.path_doubts z o
            pick z (inr o) = let k = mid.doubts a y c in subst (λ v. (found l v ≡ none) × InDoubt blank p v) (sym (in_one o)) (k.0, (y, k.1))

            flip : false ≡ true → ⊥
            flip k = let z : ◌≡◌ {A = ℕ} 0 1 = cc in omega arith

        pub brought_followed : (y : ℕ) → w.cause a ≡ some y → (e : Def M) → defs p a ≡ some e → (w₁ : View M) (o : Outcome M) → (f : Followed blank locks depth p l r (path ++ (a ∷ [])) a e [] w₁ o)
            → (g : Brought blank locks depth p l r path a w₁ o) × (g.report ≡ f.report)
        brought_followed y c e u w₁ o f = (record { log = f.log; report = f.report; afresh = worked u f.steps; off_path = λ _ _. open'.off_path y c; mid = f.mid }, refl)
