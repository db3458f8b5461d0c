-- Membership, the last of a list, how many numbers a list leaves free, and some plain logic.
use Rattle.std.proofs.Common.{◌≡◌, ℕ, zero, suc, ◌+◌, ◌<◌, ◌≤◌, ◌⊎◌, List, [], ◌∷◌, ◌++◌, length, sym, refl, ap, ◌∙◌, subst, inl, inr, append_assoc, arith, length-append}
use mathlib.Core.Option.{none, some}
use native.Mathlib.Decide.{ℕ_discrete}
use Rattle.past.specs.Afresh.{In, first, later}

pub no_some : {A : Type 0} {a : A} → none ≡ some a → ⊥
no_some p = let z : ◌≡◌ {A = ℕ} 0 1 = cc in omega arith

module _ {A : Type 0} where
  pub in_left : {a : A} {l : List A} (r : List A) → In a l → In a (l ++ r)
  in_left r (first e) = first e
  in_left r (later i) = later (in_left r i)

  pub in_right : {a : A} (l : List A) {r : List A} → In a r → In a (l ++ r)
  in_right [] i = i
  in_right (y ∷ l) i = later (in_right l i)

  pub in_both : {a : A} (l : List A) {r : List A} → In a (l ++ r) → In a l ⊎ In a r
  in_both [] i = inr i
  in_both (y ∷ l) (first e) = inl (first e)
  in_both {a} (y ∷ l) {r} (later i) = grow (in_both l i)
    where
      grow : In a l ⊎ In a r → In a (y ∷ l) ⊎ In a r
      grow (inl j) = inl (later j)
      grow (inr j) = inr j

  pub in_one : {a b : A} → In a (b ∷ []) → a ≡ b
  in_one (first e) = e
  in_one (later i) = elim i [ ]

  -- the last of a list
  pub record Ends (l : List A) (a : A) : Type 0 where
    pub pre : List A
    pub is : l ≡ pre ++ (a ∷ [])

  cons_nil : (a : A) (l : List A) → [] ≡ l ++ (a ∷ []) → ⊥
  cons_nil a l e = let k = ap length e in omega (arith, length-append l (a ∷ []), k)

  one_last : (a a' : A) (l l' : List A) → l ++ (a ∷ []) ≡ l' ++ (a' ∷ []) → a ≡ a'
  one_last a a' [] [] e = cc
  one_last a a' [] (y ∷ l') e = let k : [] ≡ l' ++ (a' ∷ []) = cc in absurd (cons_nil a' l' k)
  one_last a a' (y ∷ l) [] e = let k : [] ≡ l ++ (a ∷ []) = cc in absurd (cons_nil a l k)
  one_last a a' (y ∷ l) (z ∷ l') e = one_last a a' l l' (cc)

  pub ends_one : {a a' : A} {l l' : List A} → l ≡ l' → Ends l a → Ends l' a' → a ≡ a'
  ends_one {a} {a'} e h h' = one_last a a' h.pre h'.pre (cc)

  pub ends_right : {a : A} (l : List A) {r : List A} → Ends r a → Ends (l ++ r) a
  ends_right {a} l h = record { pre = l ++ h.pre; is = ap (λ z. l ++ z) h.is ∙ sym (append_assoc l h.pre (a ∷ [])) }

-- cells on a path
pub dec_in : (x : ℕ) (l : List ℕ) → Dec (In x l)
dec_in x [] = no (λ i. elim i [ ])
dec_in x (y ∷ l) = join (ℕ_discrete x y) (dec_in x l)
  where
    join : Dec (x ≡ y) → Dec (In x l) → Dec (In x (y ∷ l))
    join (yes e) _ = yes (first e)
    join (no n) (yes i) = yes (later i)
    join (no n) (no m) = no (λ i. away i)
      where
        away : In x (y ∷ l) → ⊥
        away (first e) = n e
        away (later i) = m i

-- how many numbers below n are not on the list
bit : {A : Type 0} → Dec A → ℕ
bit (yes _) = 0
bit (no _) = 1

pub free : ℕ → List ℕ → ℕ
free zero l = 0
free (suc n) l = bit (dec_in n l) + free n l

pub free_most : (n : ℕ) (l : List ℕ) → free n l ≤ n
unfolding free bit
free_most zero l = omega arith
free_most (suc n) l = omega (arith, one (dec_in n l), free_most n l)
  where
    one : (p : Dec (In n l)) → bit p ≤ 1
    one (yes _) = omega arith
    one (no _) = omega arith

-- a list that holds all that another does leaves no more free, and with a number more, fewer
module _ (l l' : List ℕ) (all : (y : ℕ) → In y l → In y l') where
  bit_falls : (n : ℕ) → bit (dec_in n l') ≤ bit (dec_in n l)
  unfolding bit
  bit_falls n = go (dec_in n l') (dec_in n l)
    where
      go : (p : Dec (In n l')) (q : Dec (In n l)) → bit p ≤ bit q
      go (yes _) (yes _) = omega arith
      go (yes _) (no _) = omega arith
      go (no _) (no _) = omega arith
      go (no m) (yes i) = absurd (m (all n i))

  free_falls : (n : ℕ) → free n l' ≤ free n l
  unfolding free
  free_falls zero = omega arith
  free_falls (suc n) = omega (arith, bit_falls n, free_falls n)

  module _ (a : ℕ) (there : In a l') (new : ¬ In a l) where
    bit_here : bit (dec_in a l') < bit (dec_in a l)
    unfolding bit
    bit_here = go (dec_in a l') (dec_in a l)
      where
        go : (p : Dec (In a l')) (q : Dec (In a l)) → bit p < bit q
        go _ (yes i) = absurd (new i)
        go (yes _) (no _) = omega arith
        go (no k) (no _) = absurd (k there)

    free_less : (n : ℕ) → a < n → free n l' < free n l
    unfolding free
    free_less zero h = absurd (omega arith)
    free_less (suc n) h = go (λ k. free_less n k) (ℕ_discrete a n)
      where
        go : (a < n → free n l' < free n l) → Dec (a ≡ n) → free (suc n) l' < free (suc n) l
        go ih (yes e) = let k : bit (dec_in n l') < bit (dec_in n l) = rw (← e) bit_here in omega (arith, free_falls n)
        go ih (no k) = omega (arith, bit_falls n, ih (omega arith))

-- at the end, and at the front
pub free_fewer : (n a : ℕ) (l : List ℕ) → a < n → ¬ In a l → free n (l ++ (a ∷ [])) < free n l
free_fewer n a l h m = free_less l (l ++ (a ∷ [])) (λ y i. in_left (a ∷ []) i) a (in_right l (first refl)) m n h

pub free_front : (n a : ℕ) (l : List ℕ) → a < n → ¬ In a l → free n (a ∷ l) < free n l
free_front n a l h m = free_less l (a ∷ l) (λ y i. later i) a (first refl) m n h

-- what is decided of each is decided of all
pub dec_every : {A : Type 0} {P : A → Type 0} → ((a : A) → Dec (P a)) → (l : List A) → Dec ((a : A) → In a l → P a)
dec_every d [] = yes (λ a i. elim i [ ])
dec_every {A} {P} d (x ∷ l) = go (d x) (dec_every d l)
  where
    go : Dec (P x) → Dec ((a : A) → In a l → P a) → Dec ((a : A) → In a (x ∷ l) → P a)
    go (no n) _ = no (λ f. n (f x (first refl)))
    go (yes p) (no n) = no (λ f. n (λ a i. f a (later i)))
    go (yes p) (yes f) = yes each
      where
        each : (a : A) → In a (x ∷ l) → P a
        each a (first e) = subst P (sym e) p
        each a (later i) = f a i

pub dec_not : {A : Type 0} → Dec A → Dec (¬ A)
dec_not (yes a) = no (λ n. n a)
dec_not (no n) = yes n
