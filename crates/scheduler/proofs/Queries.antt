-- A query, by the settling of its cell.
use Rattle.std.proofs.Common.{◌≡◌, ℕ, ◌<◌, ◌≤◌, Bool, ◌⊎◌, List, [], ◌++◌, map, length, take, drop, Ok, Err, sym, refl, ap, ◌∙◌, subst, inl, inr, arith, take_all}
use native.Mathlib.Decide.{dec_lt}
use Rattle.std.proofs.Math.Seq.{take-append_seam, drop-append_seam}
use Rattle.std.proofs.lemmas.List.{length-map, length-take}
use Rattle.interfaces.specs.declared.cell.Cell.{Cell}
use Rattle.interfaces.specs.declared.refusal.Refusal.{Refusal}
use Rattle.interfaces.specs.Cells.{cell_count, work_length, number_of}
use Rattle.interfaces.specs.Refusals.{said, no as refusal}
use Rattle.interfaces.specs.Tasks.{Verdict}
use Rattle.past.specs.Afresh.{Log, Outcome, gave, fault}
use Rattle.past.specs.Past.{Run, query, refused, queried, Past, ◌▹◌}
use Rattle.past.specs.Law.{Lawful}
use Rattle.view.specs.View.{View, Shows}
use Rattle.midway.proofs.Ends.{mid_start, mid_end, lawful_end, refused_shows, refused_lawful}
use Rattle.moves.specs.declared.answer.Fault.{Fault}
use Rattle.moves.specs.declared.answer.Ran.{Ran}
use Rattle.moves.specs.declared.path.Path.{Path}
use Rattle.moves.specs.Paths.{path_cells}
use Rattle.scheduler.specs.Outcomes.{outcome_of, layer_of, ran_entry, run_entry, Listed}
use Rattle.scheduler.specs.Settling.{Settles}
use Rattle.scheduler.specs.Promise.{Enough, Setting, Refused, Answered}

pub few_cells : (p : Path) → length (path_cells p) ≤ cell_count
few_cells p = omega (arith, p.short, length-take p.len p.cells)

-- settling a cell with no path and no runs yet, where the lists are named otherwise
pub settled_as : {V : Type 0} (blank : V) (depth : ℕ) (w w' : View V) (a : ℕ) (o : Outcome V) {path : List ℕ} {ran₀ ran ran' : ℕ} {list₀ list list' before : List Ran}
    → path ≡ [] → ran₀ ≡ 0 → list₀ ≡ before → ran' ≡ ran → list' ≡ list → Settles blank depth w w' path a ran₀ list₀ ran list o → Settles blank depth w w' [] a 0 before ran' list' o
settled_as blank depth w w' a o {ran₀ = ran₀} {ran = ran} {list₀ = list₀} {list = list} {list' = list'} {before = before} p n l m k s =
    subst (λ z. Settles blank depth w w' [] a 0 before z list' o) (sym m) (subst (λ z. Settles blank depth w w' [] a 0 before ran z o) (sym k)
    (subst (λ z. Settles blank depth w w' [] a 0 z ran list o) l (subst (λ z. Settles blank depth w w' [] a z list₀ ran list o) n (subst (λ z. Settles blank depth w w' z a ran₀ list₀ ran list o) p s))))

module _ {P V : Type 0} (canon : V → V) (blank : V) (locks : ℕ → Bool) (stands : List ℕ → Verdict V) (depth : ℕ) (same : (v w : V) → Dec (v ≡ w)) (q : Setting P V) (small : q.cell < cell_count) where
  too_little : ¬ Enough q.lent → (q.lent.report < cell_count) ⊎ ((q.lent.chain < cell_count) ⊎ (q.lent.work < work_length))
  too_little n = go (dec_lt q.lent.report cell_count) (dec_lt q.lent.chain cell_count) (dec_lt q.lent.work work_length)
    where
      go : Dec (q.lent.report < cell_count) → Dec (q.lent.chain < cell_count) → Dec (q.lent.work < work_length) → (q.lent.report < cell_count) ⊎ ((q.lent.chain < cell_count) ⊎ (q.lent.work < work_length))
      go (yes a) _ _ = inl a
      go (no _) (yes b) _ = inr (inl b)
      go (no _) (no _) (yes c) = inr (inr c)
      go (no a) (no b) (no c) = absurd (n (record { report = omega arith; chain = omega arith; work = omega arith }))

  pub refuses : (e : Refusal) → said e ≡ refusal 1 → ¬ Enough q.lent → q.parts_after ≡ q.parts_before → q.view_after ≡ q.view_before → q.report_after ≡ q.report_before → q.chain_after ≡ q.chain_before → q.work_after ≡ q.work_before
      → Refused canon blank locks stands depth q e
  refuses e k n ps vs rs cs ws = record {
    short = n;
    number = k;
    same_parts = ps;
    same_report = rs;
    same_chain = cs;
    same_work = ws;
    shows = λ p h s. subst (λ z. Shows blank locks depth (p ▹ refused (query q.cell q.lent) (refusal 1)) z) (sym vs) (refused_shows blank locks stands depth same p (query q.cell q.lent) (refusal 1) q.view_before s);
    lawful = λ p h. refused_lawful blank locks stands depth same p q.cell q.lent h small (too_little n);
  }

  module _ (enough : Enough q.lent) (room : cell_count ≤ length q.report_before) (ran : ℕ) where
    record Came (o : Outcome V) (p : Past V) : Type 0 where
      log : Log V
      runs : List (Run V)
      lawful : Lawful blank locks stands depth (p ▹ queried q.cell q.lent log o runs)
      shows : Shows blank locks depth (p ▹ queried q.cell q.lent log o runs) q.view_after
      listed : Listed runs ran q.report_after q.report_before

    came : (o : Outcome V) → Settles blank depth q.view_before q.view_after [] q.cell 0 q.report_before ran q.report_after o
        → (p : Past V) → Lawful blank locks stands depth p → Shows blank locks depth p q.view_before → Came o p
    came o st p h s =
        let b = st locks stands p [] [] q.report_before h (mid_start blank locks stands depth same p q.view_before s)
        (record { distinct = tt; path_doubts = λ y i. elim i [ ]; off_path = λ y e i. elim i [ ] }) (record { count_is = refl; front_is = refl; rest_is = refl; length_is = refl; room = room }) in
        record {
          log = b.0.log;
          runs = b.0.report;
          lawful = lawful_end blank locks stands depth same p q.cell q.lent b.0.log o b.0.report h small (λ k. omega (arith, enough.report)) (λ k. omega (arith, enough.chain)) (λ k. omega (arith, enough.work)) b.0.afresh q.view_after b.0.mid;
          shows = mid_end blank locks stands depth same p q.cell q.lent b.0.log o b.0.report q.view_after b.0.mid;
          listed = b.1;
        }

    counted_front : {r : List (Run V)} → Listed r ran q.report_after q.report_before → map ran_entry (take (length r) q.report_after) ≡ map run_entry r
    counted_front k = ap (λ z. map ran_entry (take z q.report_after)) (sym k.count_is) ∙ k.front_is

    counted_rest : {r : List (Run V)} → Listed r ran q.report_after q.report_before → drop (length r) q.report_after ≡ drop (length r) q.report_before
    counted_rest k = ap (λ z. drop z q.report_after) (sym k.count_is) ∙ k.rest_is ∙ ap (λ z. drop z q.report_before) k.count_is

    pub gives : (v : V) → q.chain_after ≡ q.chain_before → Settles blank depth q.view_before q.view_after [] q.cell 0 q.report_before ran q.report_after (gave (canon v))
        → Answered canon blank locks stands depth q (record { outcome = Ok v; runs = ran })
    gives v same_chain st = record {
      enough = enough;
      queried = λ p h s. let a = came (gave (canon v)) st p h s in record {
        log = a.log;
        outcome = gave (canon v);
        runs = a.runs;
        lawful = a.lawful;
        shows = a.shows;
        answers = refl;
        counted = a.listed.count_is;
        listed = counted_front a.listed;
        report_rest = counted_rest a.listed;
        chained = refl;
        chain_rest = same_chain;
      };
    }

    pub faults : (f : Fault) (path : List Cell) → f.chain ≡ length path → f.chain ≤ length q.chain_before → q.chain_after ≡ path ++ drop f.chain q.chain_before
        → Settles blank depth q.view_before q.view_after [] q.cell 0 q.report_before ran q.report_after (outcome_of canon path (Err f))
        → Answered canon blank locks stands depth q (record { outcome = Err f; runs = ran })
    faults f path m n' k st = record {
      enough = enough;
      queried = λ p h s. let a = came (outcome_of canon path (Err f)) st p h s in record {
        log = a.log;
        outcome = outcome_of canon path (Err f);
        runs = a.runs;
        lawful = a.lawful;
        shows = a.shows;
        answers = ap (λ z. fault f.number f.mark (number_of f.cell) (layer_of f.layer) (map number_of z)) front;
        counted = a.listed.count_is;
        listed = counted_front a.listed;
        report_rest = counted_rest a.listed;
        chained = ap (λ z. map number_of (take z q.chain_after)) size ∙ ap (map number_of) front;
        chain_rest = ap (λ z. drop z q.chain_after) size ∙ rest ∙ ap (λ z. drop z q.chain_before) (sym size);
      };
    }
      where
        whole : take f.chain path ≡ path
        whole = take_all f.chain path (omega (arith, m))

        front : take f.chain q.chain_after ≡ take f.chain path
        front = ap (take f.chain) k ∙ ap (λ n. take n (path ++ drop f.chain q.chain_before)) m ∙ take-append_seam path (drop f.chain q.chain_before) ∙ sym whole

        rest : drop f.chain q.chain_after ≡ drop f.chain q.chain_before
        rest = ap (drop f.chain) k ∙ ap (λ n. drop n (path ++ drop f.chain q.chain_before)) m ∙ drop-append_seam path (drop f.chain q.chain_before)

        size : length (map number_of (take f.chain path)) ≡ f.chain
        size = length-map (take f.chain path) number_of ∙ ap length whole ∙ sym m
