-- Readers that are right for a set of words: what they read, and where they stop. Assumes nothing.
use Rattle.std.proofs.Common.{◌≡◌, ℕ, suc, ◌+◌, ◌<◌, ◌≤◌, eqb, List, [], ◌∷◌, ◌++◌, length, get_or, take, drop, sym, refl, ap, ◌∙◌, zero-le, one-add, arith}
use Rattle.std.proofs.lemmas.List.{get_or-take, length-take}
use Rattle.std.proofs.lemmas.Bool.{cond_both, eqb-true, eqb-false}
use Rattle.fragment_grammar.specs.Reader.{Read, got, stuck, further, head, nothing, led}

-- the front of `xs`, `w` bytes, is a word that says `a`, and no other word begins like that
pub record Took {A : Type 0} (C : List ℕ → A → Type 0) (xs : List ℕ) (a : A) (w : ℕ) : Type 0 where
  pub fits : w ≤ length xs
  pub reads : C (take w xs) a
  pub only : (s : List ℕ) (b : A) (z : List ℕ) → C s b → take w xs ≡ take w (s ++ z) → (s ≡ take w xs) × (b ≡ a)

-- `p` bytes of `xs` begin a word, and no word agrees with `xs` for one byte more
pub record Halted {A : Type 0} (C : List ℕ → A → Type 0) (xs : List ℕ) (p : ℕ) : Type 0 where
  pub fits : p ≤ length xs
  pub rest : List ℕ
  pub what : A
  pub viable : C (take p xs ++ rest) what
  pub dead : (s : List ℕ) (b : A) (z : List ℕ) → C s b → take (suc p) xs ≡ take (suc p) (s ++ z) → ⊥

abbrev pub Right : {A : Type 0} → (List ℕ → A → Type 0) → List ℕ → Read A → Type 0
Right C xs (got a w) = Took C xs a w
Right C xs (stuck p) = Halted C xs p

-- lists that agree for `k` bytes agree at each of them
pub agree : (xs ys : List ℕ) (k j : ℕ) → j < k → take k xs ≡ take k ys → get_or xs j 0 ≡ get_or ys j 0
agree xs ys k j l e = sym (get_or-take k xs j 0 l) ∙ ap (λ zs. get_or zs j 0) e ∙ get_or-take k ys j 0 l

-- a word of no bytes
pub record Just {A : Type 0} (x : A) (s : List ℕ) (a : A) : Type 0 where
  pub empty : s ≡ []
  pub is : a ≡ x

pub nothing_right : {A : Type 0} (x : A) (xs : List ℕ) → Right (Just x) xs (nothing x xs)
nothing_right x xs = record { fits = zero-le; reads = record { empty = refl; is = refl }; only = λ s b z h e. (h.empty, h.is) }

-- a word that begins with the byte `b`
pub record Led {A : Type 0} (b : ℕ) (C : List ℕ → A → Type 0) (s : List ℕ) (a : A) : Type 0 where
  pub rest : List ℕ
  pub splits : s ≡ b ∷ rest
  pub after : C rest a

lead_take : (n x : ℕ) (ys : List ℕ) → take (1 + n) (x ∷ ys) ≡ x ∷ take n ys
lead_take n x ys = ap (λ k. take k (x ∷ ys)) (one-add n)

lead_next : (n x : ℕ) (ys : List ℕ) → take (suc (1 + n)) (x ∷ ys) ≡ x ∷ take (suc n) ys
lead_next n x ys = ap (λ k. take (suc k) (x ∷ ys)) (one-add n)

tail : {x y : ℕ} {xs ys : List ℕ} → ◌≡◌ {A = List ℕ} (x ∷ xs) (y ∷ ys) → xs ≡ ys
tail e = cc

led_deeper : {A : Type 0} (b : ℕ) (C : List ℕ → A → Type 0) (x : ℕ) (ys : List ℕ) → x ≡ b → (r : Read A) → Right C ys r → Right (Led b C) (x ∷ ys) (further 1 r)
led_deeper b C x ys e (got a w) k = record {
  fits = let f = k.fits in omega arith;
  reads = let t = lead_take w x ys in record { rest = take w ys; splits = cc; after = k.reads };
  only = λ s c z l q.
      let p = l.splits in
      let t = lead_take w x ys in
      let u = lead_take w b (l.rest ++ z) in
      let v : x ∷ take w ys ≡ b ∷ take w (l.rest ++ z) = cc in
      let o = k.only l.rest c z l.after (tail v) in
      let o0 = o.0 in
      (cc, o.1);
}
led_deeper b C x ys e (stuck p) k = record {
  fits = let f = k.fits in omega arith;
  rest = k.rest;
  what = k.what;
  viable = let t = lead_take p x ys in record { rest = take p ys ++ k.rest; splits = cc; after = k.viable };
  dead = λ s c z l q.
      let d = l.splits in
      let t = lead_next p x ys in
      let u = lead_next p b (l.rest ++ z) in
      let v : x ∷ take (suc p) ys ≡ b ∷ take (suc p) (l.rest ++ z) = cc in
      k.dead l.rest c z l.after (tail v);
}

module _ {A : Type 0} (b : ℕ) (pos : 0 < b) (C : List ℕ → A → Type 0) (go : List ℕ → Read A) (right : (ys : List ℕ) → Right C ys (go ys)) where
  pub led_on : (xs : List ℕ) → head xs ≡ b → Right (Led b C) xs (further 1 (go (drop 1 xs)))
  led_on [] e = absurd (omega arith)
  led_on (x ∷ ys) e = led_deeper b C x ys e (go ys) (right ys)

  led_off : (word : List ℕ) (a : A) → C word a → (xs : List ℕ) → (head xs ≡ b → ⊥) → Halted (Led b C) xs 0
  led_off word a h xs n = record {
    fits = zero-le;
    rest = b ∷ word;
    what = a;
    viable = record { rest = word; splits = refl; after = h };
    dead = λ s c z l q. n (agree xs (s ++ z) 1 0 (omega arith) q ∙ ap (λ t. head (t ++ z)) l.splits);
  }

  pub led_right : (word : List ℕ) (a : A) → C word a → (xs : List ℕ) → Right (Led b C) xs (led b go xs)
  led_right word a h xs = cond_both (eqb (head xs) b) _ _ (Right (Led b C) xs)
      (λ t. led_on xs (eqb-true (head xs) b t))
      (λ f. led_off word a h xs (eqb-false (head xs) b f))

-- a reader that is right for some words is right for more, if those that begin with the same byte are among the first
pub widen : {A : Type 0} (C E : List ℕ → A → Type 0) (xs : List ℕ) (r : Read A)
    → ((s : List ℕ) (a : A) → C s a → E s a)
    → ((s : List ℕ) (a : A) → C s a → 0 < length s)
    → ((s : List ℕ) (a : A) (z : List ℕ) → E s a → head xs ≡ head (s ++ z) → C s a)
    → Right C xs r → Right E xs r
widen C E xs (got a w) up full down k = record {
  fits = k.fits;
  reads = up _ _ k.reads;
  only = λ s b z h e.
      let f = full _ _ k.reads in
      let l = length-take w xs in
      k.only s b z (down s b z h (agree xs (s ++ z) w 0 (omega arith) e)) e;
}
widen C E xs (stuck p) up full down k = record {
  fits = k.fits;
  rest = k.rest;
  what = k.what;
  viable = up _ _ k.viable;
  dead = λ s b z h e. k.dead s b z (down s b z h (agree xs (s ++ z) (suc p) 0 (omega arith) e)) e;
}
