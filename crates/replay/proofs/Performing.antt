-- A list of calls, one after another.
use Rattle.std.proofs.Common.{◌≡◌, ℕ, ◌+◌, ◌<◌, Bool, List, [], ◌∷◌, ◌++◌, map, length, get_or, take, Ok, Err, Result, sym, refl, ap, ◌∙◌, subst, append_assoc}
use mathlib.Core.Path.{fun_ext}
use Rattle.std.proofs.lemmas.List.{append-nil, take_more, map_push}
use Rattle.interfaces.specs.declared.refusal.Refusal.{Refusal}
use Rattle.interfaces.specs.Refusals.{Said, said}
use Rattle.interfaces.specs.Tasks.{Verdict}
use Rattle.past.specs.Past.{Lent, Request, Call, query, start, ◌▹◌}
use Rattle.past.specs.Law.{Lawful}
use Rattle.view.specs.View.{View, Shows}
use Rattle.calls.specs.Answers.{answer_of, Answers}
use Rattle.scheduler.specs.declared.answer.Answer.{Answer}
use Rattle.scheduler.specs.Promise.{Setting, Comes}
use Rattle.engine.specs.Queries.{Lists, Tells, answered, not_answered, Asked}
use Rattle.engine.proofs.Querying.{lists_of, asked_after}
use Rattle.replay.specs.declared.Call.{Call as Listed}
use Rattle.replay.specs.Replays.{request_of, first, requests, Performs, Replays}

-- the answer of a query of which nobody looks at the value
abbrev pub quiet : {V : Type 0} → Result (Answer V) Refusal → Result (Unit {0}) Said
quiet (Ok a) = Ok tt
quiet (Err e) = Err (said e)

quietly : {V : Type 0} (canon : V → V) (lists : Lists) {k : Call V} {r : Result (Answer V) Refusal} → Tells canon lists k r → quiet r ≡ answer_of k
quietly canon lists (answered t) = refl
quietly canon lists (not_answered e a b) = ap Err e

pub passes : {P V : Type 0} (canon : V → V) (blank : V) (stands : List ℕ → Verdict V) (depth : ℕ) (q : Setting P V) (lent : Lent) → q.lent ≡ lent
    → (r : Result (Answer V) Refusal) (u : Result (Unit {0}) Said) → u ≡ quiet r → Comes canon blank q.view_before.locked stands depth q r
    → Answers blank stands depth (query q.cell lent) u q.view_before q.view_after
passes canon blank stands depth q lent e r u t h = λ locks p l s.
    let a = asked_after canon blank locks q.view_before.locked stands depth q (fun_ext s.locks_are) r h p l s in
    record {
      call = a.call;
      request_is = a.request_is ∙ ap (query q.cell) e;
      answer_is = t ∙ quietly canon (lists_of q) a.tells;
      lawful = a.lawful;
      shows = a.shows;
    }

module _ {V : Type 0} (blank : V) (stands : List ℕ → Verdict V) (depth : ℕ) where
  pub none_yet : (w : View V) → Performs blank stands depth [] w w
  none_yet w = λ locks p l s. record { past = p; begins = refl; made = sym (append-nil (requests p)); lawful = l; shows = s }

  pub one_more : (qs : List (Request V)) (q : Request V) (r : Result (Unit {0}) Said) (w w' w'' : View V)
      → Performs blank stands depth qs w w' → Answers blank stands depth q r w' w'' → Performs blank stands depth (qs ++ (q ∷ [])) w w''
  unfolding first requests
  one_more qs q r w w' w'' h a = λ locks p l s.
      let g = h locks p l s in
      let b = a locks g.past g.lawful g.shows in
      record {
        past = g.past ▹ b.call;
        begins = g.begins;
        made = ap (λ z. requests g.past ++ (z ∷ [])) b.request_is ∙ ap (λ z. z ++ (q ∷ [])) g.made ∙ append_assoc (requests p) qs (q ∷ []);
        lawful = b.lawful;
        shows = b.shows;
      }

  -- the next call of a list
  pub next_call : (canon : V → V) (n m : ℕ) → n ≡ m → (xs : List (Listed V)) (i : ℕ) (x : Listed V) → i < length xs → x ≡ get_or xs i x
      → (r : Result (Unit {0}) Said) (w w' w'' : View V) → Performs blank stands depth (map (request_of canon m) (take i xs)) w w'
      → Answers blank stands depth (request_of canon n x) r w' w'' → Performs blank stands depth (map (request_of canon m) (take (i + 1) xs)) w w''
  next_call canon n m e xs i x l is r w w' w'' h a =
      let b : Answers blank stands depth (request_of canon m x) r w' w'' = subst (λ k. Answers blank stands depth (request_of canon k x) r w' w'') e a in
      let t : map (request_of canon m) (take (i + 1) xs) ≡ map (request_of canon m) (take i xs) ++ (request_of canon m x ∷ []) =
      ap (map (request_of canon m)) (take_more xs i x l ∙ ap (λ z. take i xs ++ (z ∷ [])) (sym is)) ∙ map_push (request_of canon m) (take i xs) x in
      subst (λ z. Performs blank stands depth z w w'') (sym t) (one_more (map (request_of canon m) (take i xs)) (request_of canon m x) r w w' w'' h b)

pub replays : {P V : Type 0} (canon : V → V) (blank : V) (locks : ℕ → Bool) (stands : List ℕ → Verdict V) (depth : ℕ) (values : ℕ → V) (qs : List (Request V)) (q : Setting P V) (lent : Lent)
    (w : View V) (r : Result (Answer V) Refusal) → q.lent ≡ lent → Shows blank locks depth (start values) w → Performs blank stands depth qs w q.view_before
    → Comes canon blank q.view_before.locked stands depth q r → Replays canon blank locks stands depth values qs (query q.cell lent) (lists_of q) r q.view_after
unfolding first requests Lawful
replays canon blank locks stands depth values qs q lent w r e s h c =
    let g = h locks (start values) tt s in
    record {
      past = g.past;
      begins = g.begins;
      made = g.made;
      lawful = g.lawful;
      asked = subst (λ z. Asked canon blank locks stands depth g.past (query q.cell z) (lists_of q) r q.view_after) e
          (asked_after canon blank locks q.view_before.locked stands depth q (fun_ext g.shows.locks_are) r c g.past g.lawful g.shows);
    }
