-- That every verdict is right.
use Rattle.std.proofs.Common.{◌≡◌, ℕ, zero, suc, ◌+◌, ◌-◌, ◌<◌, ◌≤◌, Bool, true, false, cond, eqb, ltb, List, [], ◌∷◌, ◌++◌, length, get_or, take, drop, sym, refl, ap, ◌∙◌, arith, length-append, length-drop, length-take, ltb-false, ltb-true, eqb-true}
use borrow.Author.Tests.{eqb-false, both_ways}
use Rattle.std.proofs.lemmas.List.{get_or_append_left, get_or-append_right, get_or-take, get_or-drop}
use Rattle.interfaces.specs.Tasks.{legal, illegal}
use Rattle.definitions.specs.Longest.{Begins, Longest}
use Rattle.buyer.specs.Fallback.{may_stand_lem, right_from, written}
use Rattle.buyer.specs.Places.{Definition, Right, FallbackPlaces}
use Rattle.buyer.proofs.Reading.{right_few, right_length, right_stands, right_fails}

-- `00|00`, a definition by which every right beginning can be ended
abbrev sample : List ℕ
sample = 48 ∷ 48 ∷ 124 ∷ 48 ∷ 48 ∷ []

sample_stands : (i : ℕ) → i < 5 → may_stand_lem i (get_or sample i 0) ≡ true
sample_stands zero l = refl
sample_stands (suc zero) l = refl
sample_stands (suc (suc zero)) l = refl
sample_stands (suc (suc (suc zero))) l = refl
sample_stands (suc (suc (suc (suc zero)))) l = refl
sample_stands (suc (suc (suc (suc (suc i))))) l = absurd (omega arith)

length_front : (p : ℕ) (text : List ℕ) → p ≤ length text → length (take p text) ≡ p
length_front p text l = let e = length-take p text in omega arith

module _ (text : List ℕ) where
  abbrev right : ℕ
  right = right_from 0 text

  ended : Begins Definition (take right text)
  ended =
      let few = right_few 0 text (omega arith) in
      let fits = right_length 0 text in
      let front = length_front right text fits in
      record {
        rest = drop right sample;
        legal = record {
          five = let e = length-append (take right text) (drop right sample) in let f = length-drop right sample in omega arith;
          each = λ i l. go i l (ltb i right) refl;
        };
      }
    where
      go : (i : ℕ) → i < 5 → (b : Bool) → ltb i (right_from 0 text) ≡ b → may_stand_lem i (get_or (take (right_from 0 text) text ++ drop (right_from 0 text) sample) i 0) ≡ true
      go i l true e =
          let h = ltb-true i (right_from 0 text) e in
          let front = length_front (right_from 0 text) text (right_length 0 text) in
          ap (may_stand_lem i) (get_or_append_left (take (right_from 0 text) text) (drop (right_from 0 text) sample) 0 i (omega arith) ∙ get_or-take (right_from 0 text) text i 0 h)
          ∙ right_stands 0 text i i (omega arith) h
      go i l false e =
          let h = ltb-false i (right_from 0 text) e in
          let front = length_front (right_from 0 text) text (right_length 0 text) in
          let s : right_from 0 text + (i - right_from 0 text) ≡ i = omega arith in
          ap (may_stand_lem i)
          (get_or-append_right (take (right_from 0 text) text) (drop (right_from 0 text) sample) (right_from 0 text) i 0 front h
          ∙ get_or-drop (right_from 0 text) sample (i - right_from 0 text) 0
          ∙ ap (λ (n : ℕ). get_or sample n 0) s)
          ∙ sample_stands i l

  -- no definition goes on with the byte behind a right beginning
  no_longer : (n : ℕ) → right < n → n ≤ length text → Begins Definition (take n text) → ⊥
  no_longer n l w b =
      let front = length_front n text w in
      let long = length-append (take n text) b.rest in
      let small : right_from 0 text < 5 = omega (arith, b.legal.five) in
      both_ways _
      (right_fails 0 text (right_from 0 text) (right_from 0 text) (omega arith) refl (omega arith))
      (ap (may_stand_lem (right_from 0 text)) (sym (get_or_append_left (take n text) b.rest 0 (right_from 0 text) (omega arith) ∙ get_or-take n text (right_from 0 text) 0 l))
      ∙ b.legal.each (right_from 0 text) small)

  longest : ((length text ≡ 5) → (right ≡ 5) → ⊥) → Longest Definition text right
  longest not-both = record {
    fits = right_length 0 text;
    begins = ended;
    ends = no_longer;
    illegal = λ d.
        let few = right_few 0 text (omega arith) in
        let five = d.five in
        let other : ¬ (right_from 0 text ≡ 5) = λ e. not-both five e in
        let small : right_from 0 text < 5 = omega arith in
        both_ways _ (right_fails 0 text (right_from 0 text) (right_from 0 text) (omega arith) refl (omega arith)) (d.each (right_from 0 text) small);
  }

  judged : (s t : Bool) → eqb (length text) 5 ≡ s → eqb (right_from 0 text) 5 ≡ t
      → Right text (cond s (cond t (legal (written text)) (illegal (right_from 0 text))) (illegal (right_from 0 text)))
  judged true true e f =
      let all = eqb-true (right_from 0 text) 5 f in
      record { five = eqb-true (length text) 5 e; each = λ i l. right_stands 0 text i i (omega arith) (omega arith) }
  judged true false e f = longest (λ _ r. eqb-false (right_from 0 text) 5 f r)
  judged false t e f = longest (λ l _. eqb-false (length text) 5 e l)

pub fallback_places : FallbackPlaces
fallback_places text = judged text (eqb (length text) 5) (eqb (right_from 0 text) 5) refl refl
