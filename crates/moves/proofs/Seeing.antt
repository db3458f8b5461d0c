-- How writes to the parts change what the workbook shows.
use Rattle.std.proofs.Common.{◌≡◌, ℕ, Bool, true, false, cond, eqb, leb, List, [], ◌∷◌, map, length, take, None, Ok, Err, sym, refl, ap, ◌∙◌}
use mathlib.Core.Option.{Option}
use native.Mathlib.Decide.{ℕ_discrete}
use Rattle.std.proofs.lemmas.List.{take-map}
use Rattle.interfaces.specs.declared.asked.Asked.{Asked}
use Rattle.interfaces.specs.declared.cell.Cell.{Cell}
use Rattle.interfaces.specs.Asks.{asked_cells}
use Rattle.interfaces.specs.Cells.{ask_limit, number_of, but}
use Rattle.interfaces.specs.Refusals.{no as refusal}
use Rattle.interfaces.specs.Tasks.{Def}
use Rattle.interfaces.specs.Traces.{Trace, pairs_of, recording, after_recording}
use Rattle.past.specs.Past.{changed}
use Rattle.past.proofs.Since.{changed_here, changed_away}
use Rattle.midway.specs.Planning.{plain_pair, plain_trace}
use Rattle.view.specs.View.{View}
use Rattle.table.specs.declared.Record.{Record}
use Rattle.table.specs.Records.{number_in, marked_in, cause_in, asked_in}
use Rattle.moves.specs.Moves.{Closes, Concludes}

-- what parts show that have these meanings and these records
abbrev pub seen : {V : Type 0} → (V → V) → (ℕ → V) → (ℕ → Bool) → (ℕ → Option (Def V)) → (ℕ → List (Trace V)) → (ℕ → Record) → View V
seen canon shows locked means traces rows = record {
  stored = λ x. canon (shows x);
  locked = locked;
  defs = means;
  traces = λ x. map (plain_trace canon) (traces x);
  marked = marked_in rows;
  cause = cause_in rows;
  asked = asked_in rows;
}

-- `but` and `changed` are one
pub but_changed : {A : Type 0} (x : ℕ) (a : A) (f : ℕ → A) (k : ℕ) → but x a f k ≡ changed x a f k
unfolding changed
but_changed x a f k = refl

changed_map : {A B : Type 0} (f : A → B) (x : ℕ) (a : A) (g : ℕ → A) (k : ℕ) → f (changed x a g k) ≡ changed x (f a) (λ z. f (g z)) k
changed_map f x a g k = go (ℕ_discrete k x)
  where
    go : Dec (k ≡ x) → f (changed x a g k) ≡ changed x (f a) (λ z. f (g z)) k
    go (yes e) = ap f (changed_here x a g k e) ∙ sym (changed_here x (f a) (λ z. f (g z)) k e)
    go (no n) = ap f (changed_away x a g k n) ∙ sym (changed_away x (f a) (λ z. f (g z)) k n)

changed_same : {A : Type 0} (x : ℕ) (g : ℕ → A) (k : ℕ) → changed x (g x) g k ≡ g k
changed_same x g k = go (ℕ_discrete k x)
  where
    go : Dec (k ≡ x) → changed x (g x) g k ≡ g k
    go (yes e) = changed_here x (g x) g k e ∙ ap g (sym e)
    go (no n) = changed_away x (g x) g k n

-- a write to a cell that may be locked
written : {V : Type 0} (b : Bool) (x : ℕ) (v : V) (f : ℕ → V) (k : ℕ) → cond b (f k) (but x v f k) ≡ changed x (cond b (f x) v) f k
written true x v f k = sym (changed_same x f k)
written false x v f k = but_changed x v f k

module _ {V : Type 0} (canon : V → V) (shows shows' : ℕ → V) (locked locked' : ℕ → Bool) (means : ℕ → Option (Def V)) (traces : ℕ → List (Trace V)) (rows rows' : ℕ → Record)
    (x : ℕ) (v : V) (row : Record) (asked : Asked) where
  -- a write, and a record without cause
  pub closes : ((k : ℕ) → canon (shows' k) ≡ cond (locked x) (canon (shows k)) (but x v (λ j. canon (shows j)) k)) → ((k : ℕ) → locked' k ≡ locked k) → row ≡ rows x
      → ((k : ℕ) → rows' k ≡ but x (record { defined = row.defined; cause = None; asked = asked }) rows k)
      → Closes (seen canon shows locked means traces rows) (seen canon shows' locked' means traces rows') x v (map number_of (asked_cells asked))
  closes wr lk here rs = record {
    ended = record {
      stored_is = λ k. wr k ∙ written (locked x) x v (λ j. canon (shows j)) k;
      locked_is = lk;
      defs_is = λ k. refl;
      marked_is = λ k. ap (λ z. z.defined) (rows_are k) ∙ changed_map (λ z. z.defined) x new rows k ∙ ap (λ z. changed x z.defined (λ y. (rows y).defined) k) here ∙ changed_same x (λ y. (rows y).defined) k;
      cause_is = λ k. ap (λ z. number_in z.cause) (rows_are k) ∙ changed_map (λ z. number_in z.cause) x new rows k;
      asked_is = λ k. ap (λ z. map number_of (asked_cells z.asked)) (rows_are k) ∙ changed_map (λ z. map number_of (asked_cells z.asked)) x new rows k;
    };
    traces = λ k. refl;
  }
    where
      new : Record
      new = record { defined = row.defined; cause = None; asked = asked }

      rows_are : (k : ℕ) → rows' k ≡ changed x new rows k
      rows_are k = rs k ∙ but_changed x new rows k

module _ {V : Type 0} (canon : V → V) (steady : (x : V) → canon (canon x) ≡ canon x) where
  plain_pairs : (cs : List Cell) (vs : List V) → map (plain_pair canon) (pairs_of canon cs vs) ≡ pairs_of canon cs vs
  plain_pairs [] vs = refl
  plain_pairs (c ∷ cs) [] = refl
  plain_pairs (c ∷ cs) (v ∷ vs) = λ i. record { cell = number_of c; value = steady v i } ∷ plain_pairs cs vs i

  plain_trace_lem : (cs : List Cell) (vs : List V) (v : V) → ◌≡◌ {A = Trace V} (plain_trace canon (record { asks = pairs_of canon cs vs; result = canon v })) (record { asks = pairs_of canon cs vs; result = canon v })
  plain_trace_lem cs vs v = λ i. record { asks = plain_pairs cs vs i; result = steady v i }

  -- a recording shows as it is, since it has normal forms
  recorded : (a b : Bool) (depth : ℕ) (traces : ℕ → List (Trace V)) (x : ℕ) (cs : List Cell) (vs : List V) (v : V) (k : ℕ)
      → map (plain_trace canon) (after_recording depth (cond a (cond b (Ok (record { asks = pairs_of canon cs vs; result = canon v })) (Err (refusal 9))) (Err (refusal 9))) x traces k)
      ≡ after_recording depth (cond a (cond b (Ok (record { asks = pairs_of canon cs vs; result = canon v })) (Err (refusal 9))) (Err (refusal 9))) x (λ y. map (plain_trace canon) (traces y)) k
  recorded false b depth traces x cs vs v k = refl
  recorded true false depth traces x cs vs v k = refl
  recorded true true depth traces x cs vs v k =
      let t : Trace V = record { asks = pairs_of canon cs vs; result = canon v } in
      ap (map (plain_trace canon)) (but_changed x (take depth (t ∷ traces x)) traces k)
      ∙ changed_map (map (plain_trace canon)) x (take depth (t ∷ traces x)) traces k
      ∙ ap (λ z. changed x z (λ y. map (plain_trace canon) (traces y)) k) (sym (take-map (plain_trace canon) depth (t ∷ traces x)) ∙ ap (λ z. take depth (z ∷ map (plain_trace canon) (traces x))) (plain_trace_lem cs vs v))
      ∙ sym (but_changed x (take depth (t ∷ map (plain_trace canon) (traces x))) (λ y. map (plain_trace canon) (traces y)) k)

  -- a recording, and then a value
  pub concludes : (depth : ℕ) (shows : ℕ → V) (locked : ℕ → Bool) (means : ℕ → Option (Def V)) (traces traces' : ℕ → List (Trace V)) (rows : ℕ → Record) (w' : View V) (x : ℕ) (cs cs' : List Cell) (vs vs' : List V) (v : V)
      → cs' ≡ cs → vs' ≡ vs → ((k : ℕ) → traces' k ≡ after_recording depth (recording canon cs' vs' v) x traces k)
      → Closes (seen canon shows locked means traces' rows) w' x (canon v) (map number_of cs) → Concludes canon depth (seen canon shows locked means traces rows) w' x cs vs v
  concludes depth shows locked means traces traces' rows w' x cs cs' vs vs' v c d tr z =
      record {
        ended = let y = z.ended in record { stored_is = y.stored_is; locked_is = y.locked_is; defs_is = y.defs_is; marked_is = y.marked_is; cause_is = y.cause_is; asked_is = y.asked_is };
        traces = λ k. z.traces k ∙ ap (map (plain_trace canon)) (tr k ∙ ap (λ u. after_recording depth (recording canon u vs' v) x traces k) c ∙ ap (λ u. after_recording depth (recording canon cs u v) x traces k) d)
            ∙ recorded (eqb (length cs) (length vs)) (leb (length cs) ask_limit) depth traces x cs vs v k;
      }
