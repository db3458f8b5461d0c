-- The reader of an item is right for the items of a fragment. Assumes nothing.
use Rattle.std.proofs.Common.{◌≡◌, ℕ, ◌<◌, true, not, ◌&&◌, eqb, leb, ◌⊎◌, List, [], ◌∷◌, ◌++◌, length, sym, refl, ap, ◌∙◌, subst, inl, inr, ⊎_elim, arith}
use Rattle.std.proofs.lemmas.Bool.{cond_both, eqb-true, eqb-false, and_parts, and_from, leb-true, le-leb, ne_eqb, not-true, not_from_false, both_ways, false≢true}
use Rattle.names.specs.Names.{name_of}
use Rattle.fragment_grammar.specs.Grammar.{Item, plain, insert, choice, opening, closing, question, colon, written, IsPlain, Sound}
use Rattle.fragment_grammar.specs.Reader.{got, head, nothing, led, named, empty_in, filled_in, tested_in, is_plain, item_in}
use Rattle.fragment_grammar.proofs.Reading.{Took, Right, Just, nothing_right, Led, led_right, widen}
use Rattle.fragment_grammar.proofs.NameReading.{Named, named_right}

led_head : {A : Type 0} {b : ℕ} {C : List ℕ → A → Type 0} (s : List ℕ) (a : A) (z : List ℕ) → Led b C s a → head (s ++ z) ≡ b
led_head s a z l = ap (λ t. head (t ++ z)) l.splits

led_first : {A : Type 0} {b : ℕ} {C : List ℕ → A → Type 0} (s : List ℕ) (a : A) → Led b C s a → head s ≡ b
led_first s a l = ap head l.splits

led_full : {A : Type 0} {b : ℕ} {C : List ℕ → A → Type 0} (s : List ℕ) (a : A) → Led b C s a → 0 < length s
led_full s a l = let e = ap length l.splits in omega arith

-- the words behind the cells of a choice, and behind the first cell of braces
abbrev Empty : ℕ → ℕ → List ℕ → Item → Type 0
Empty c n = Named (λ m. Led closing (Just (choice c n m)))

abbrev Filled : ℕ → List ℕ → Item → Type 0
Filled c = Named (λ n. Led colon (Empty c n))

abbrev Tested : ℕ → List ℕ → Item → Type 0
Tested c s i = Led closing (Just (insert c)) s i ⊎ Led question (Filled c) s i

some_end : (x : Item) → Led closing (Just x) (closing ∷ []) x
some_end x = record { rest = []; splits = refl; after = record { empty = refl; is = refl } }

some_empty : (c n : ℕ) → Empty c n (name_of 0 ++ (closing ∷ [])) (choice c n 0)
some_empty c n = record { cell = 0; rest = closing ∷ []; within = omega arith; splits = refl; after = some_end (choice c n 0) }

some_colon : (c n : ℕ) → Led colon (Empty c n) (colon ∷ (name_of 0 ++ (closing ∷ []))) (choice c n 0)
some_colon c n = record { rest = name_of 0 ++ (closing ∷ []); splits = refl; after = some_empty c n }

some_filled : (c : ℕ) → Filled c (name_of 0 ++ (colon ∷ (name_of 0 ++ (closing ∷ [])))) (choice c 0 0)
some_filled c = record { cell = 0; rest = colon ∷ (name_of 0 ++ (closing ∷ [])); within = omega arith; splits = refl; after = some_colon c 0 }

end_right : (x : Item) (xs : List ℕ) → Right (Led closing (Just x)) xs (led closing (nothing x) xs)
end_right x xs = led_right closing (omega arith) (Just x) (nothing x) (nothing_right x) [] x (record { empty = refl; is = refl }) xs

empty_right : (c n : ℕ) (xs : List ℕ) → Right (Empty c n) xs (empty_in c n xs)
empty_right c n xs = named_right (λ m. Led closing (Just (choice c n m)))
    (λ m s a l. let e = led_first s a l in omega arith)
    (λ m. (closing ∷ [], choice c n m, some_end (choice c n m)))
    (λ m. led closing (nothing (choice c n m)))
    (λ m ys. end_right (choice c n m) ys)
    xs

filled_right : (c : ℕ) (xs : List ℕ) → Right (Filled c) xs (filled_in c xs)
filled_right c xs = named_right (λ n. Led colon (Empty c n))
    (λ n s a l. let e = led_first s a l in omega arith)
    (λ n. (colon ∷ (name_of 0 ++ (closing ∷ [])), choice c n 0, some_colon c n))
    (λ n. led colon (empty_in c n))
    (λ n ys. led_right colon (omega arith) (Empty c n) (empty_in c n) (empty_right c n) (name_of 0 ++ (closing ∷ [])) (choice c n 0) (some_empty c n) ys)
    xs

tested_right : (c : ℕ) (xs : List ℕ) → Right (Tested c) xs (tested_in c xs)
tested_right c xs = cond_both (eqb (head xs) closing) _ _ (Right (Tested c) xs)
    (λ t. let h = eqb-true (head xs) closing t in
    widen (Led closing (Just (insert c))) (Tested c) xs _ (λ s a. inl) led_full
    (λ s a z w e. ⊎_elim (λ l. l) (λ l. absurd (let f = led_head s a z l in omega arith)) w)
    (end_right (insert c) xs))
    (λ t. let h = eqb-false (head xs) closing t in
    widen (Led question (Filled c)) (Tested c) xs _ (λ s a. inr) led_full
    (λ s a z w e. ⊎_elim (λ l. absurd (h (e ∙ led_head s a z l))) (λ l. l) w)
    (led_right question (omega arith) (Filled c) (filled_in c) (filled_right c) _ _ (some_filled c) xs))

abbrev Braces : List ℕ → Item → Type 0
Braces = Led opening (Named Tested)

tested_heads : (n : ℕ) (s : List ℕ) (a : Item) → Tested n s a → 57 < head s
tested_heads n s a w = ⊎_elim (λ l. let e = led_first s a l in omega arith) (λ l. let e = led_first s a l in omega arith) w

some_insert : Named Tested (name_of 0 ++ (closing ∷ [])) (insert 0)
some_insert = record { cell = 0; rest = closing ∷ []; within = omega arith; splits = refl; after = inl (some_end (insert 0)) }

braces_right : (xs : List ℕ) → Right Braces xs (led opening (named tested_in) xs)
braces_right xs = led_right opening (omega arith) (Named Tested) (named tested_in)
    (named_right Tested tested_heads (λ n. (closing ∷ [], insert n, inl (some_end (insert n)))) tested_in tested_right)
    _ _ some_insert xs

-- the words of items
abbrev pub Word : List ℕ → Item → Type 0
Word s i = Sound i × (s ≡ written i)

-- plain bytes
pub plain_parts : (b : ℕ) → is_plain b ≡ true → IsPlain b
plain_parts b h =
    let p = and_parts (leb 32 b) (leb b 126 && (not (eqb b opening) && not (eqb b closing))) h in
    let q = and_parts (leb b 126) (not (eqb b opening) && not (eqb b closing)) p.1 in
    let r = and_parts (not (eqb b opening)) (not (eqb b closing)) q.1 in
    let low = leb-true 32 b p.0 in
    let high = leb-true b 126 q.0 in
    let no_open = eqb-false b opening (not-true (eqb b opening) r.0) in
    let no_close = eqb-false b closing (not-true (eqb b closing) r.1) in
    (omega arith, omega arith, omega arith, omega arith)

pub is_plain_lem : (b : ℕ) → IsPlain b → is_plain b ≡ true
is_plain_lem b h =
    and_from (leb 32 b) (leb b 126 && (not (eqb b opening) && not (eqb b closing))) (le-leb 32 b (omega arith))
    (and_from (leb b 126) (not (eqb b opening) && not (eqb b closing)) (le-leb b 126 (omega arith))
    (and_from (not (eqb b opening)) (not (eqb b closing)) (not_from_false (eqb b opening) (ne_eqb b opening (omega arith))) (not_from_false (eqb b closing) (ne_eqb b closing (omega arith)))))

record Lone (s : List ℕ) (i : Item) : Type 0 where
  byte : ℕ
  sound : IsPlain byte
  word : s ≡ byte ∷ []
  item : i ≡ plain byte

lone_took : (xs : List ℕ) → is_plain (head xs) ≡ true → Took Lone xs (plain (head xs)) 1
lone_took [] h = absurd (false≢true h)
lone_took (x ∷ xs) h = record {
  fits = omega arith;
  reads = record { byte = x; sound = plain_parts x h; word = refl; item = refl };
  only = λ s b z l e.
      let w = l.word in let i = l.item in
      let q : x ≡ l.byte = cc in
      (cc, cc);
}

lone_full : (s : List ℕ) (i : Item) → Lone s i → 0 < length s
lone_full s i l = let e = ap length l.word in omega arith

lone_word : (s : List ℕ) (i : Item) → Lone s i → Word s i
lone_word s i l = (subst Sound (sym l.item) l.sound, l.word ∙ ap written (sym l.item))

word_lone : (b : ℕ) → IsPlain b → (s : List ℕ) (i : Item) (z : List ℕ) → Word s i → b ≡ head (s ++ z) → Lone s i
word_lone b p s (plain c) z h e = record { byte = c; sound = h.0; word = h.1; item = refl }
word_lone b p s (insert c) z h e = absurd (p.2 (e ∙ ap (λ t. head (t ++ z)) h.1))
word_lone b p s (choice c n m) z h e = absurd (p.2 (e ∙ ap (λ t. head (t ++ z)) h.1))

braces_word : (s : List ℕ) (i : Item) → Braces s i → Word s i
braces_word s i l = ⊎_elim insert_word choice_word l.after.after
  where
    insert_word : Led closing (Just (insert l.after.cell)) l.after.rest i → Word s i
    insert_word k =
        let a = l.splits in let b = l.after.splits in let c = k.splits in let d = k.after.empty in
        (subst Sound (sym k.after.is) l.after.within, (cc) ∙ ap written (sym k.after.is))

    choice_word : Led question (Filled l.after.cell) l.after.rest i → Word s i
    choice_word k =
        let f = k.after in let g = f.after in let h = g.after in let j = h.after in
        let a = l.splits in let b = l.after.splits in let c = k.splits in let d = f.splits in
        let u = g.splits in let v = h.splits in let w = j.splits in let x = j.after.empty in
        (subst Sound (sym j.after.is) (l.after.within, f.within, h.within), (cc) ∙ ap written (sym j.after.is))

word_braces : (s : List ℕ) (i : Item) (z : List ℕ) → Word s i → (IsPlain (head (s ++ z)) → ⊥) → Braces s i
word_braces s (plain b) z h p = absurd (p (subst (λ t. IsPlain (head (t ++ z))) (sym h.1) h.0))
word_braces s (insert c) z h p = record {
  rest = name_of c ++ (closing ∷ []);
  splits = h.1;
  after = record { cell = c; rest = closing ∷ []; within = h.0; splits = refl; after = inl (some_end (insert c)) };
}
word_braces s (choice c n m) z h p = record {
  rest = name_of c ++ (question ∷ (name_of n ++ (colon ∷ (name_of m ++ (closing ∷ [])))));
  splits = h.1;
  after = record {
    cell = c;
    rest = question ∷ (name_of n ++ (colon ∷ (name_of m ++ (closing ∷ []))));
    within = h.0.0;
    splits = refl;
    after = inr (record {
      rest = name_of n ++ (colon ∷ (name_of m ++ (closing ∷ [])));
      splits = refl;
      after = record {
        cell = n;
        rest = colon ∷ (name_of m ++ (closing ∷ []));
        within = h.0.1;
        splits = refl;
        after = record {
          rest = name_of m ++ (closing ∷ []);
          splits = refl;
          after = record { cell = m; rest = closing ∷ []; within = h.0.2; splits = refl; after = some_end (choice c n m) };
        };
      };
    });
  };
}

pub item_right : (xs : List ℕ) → Right Word xs (item_in xs)
item_right xs = cond_both (is_plain (head xs)) _ _ (Right Word xs)
    (λ t. widen Lone Word xs (got (plain (head xs)) 1) lone_word lone_full (λ s i z h e. word_lone (head xs) (plain_parts (head xs) t) s i z h e) (lone_took xs t))
    (λ f. widen Braces Word xs _ braces_word led_full
    (λ s i z h e. word_braces s i z h (λ p. both_ways _ f (is_plain_lem (head xs) (subst IsPlain (sym e) p))))
    (braces_right xs))

pub word_full : (i : Item) → 0 < length (written i)
word_full (plain b) = omega arith
word_full (insert c) = omega arith
word_full (choice c n m) = omega arith
