-- The laws of the grammar of fragments. Assumes nothing.
use Rattle.std.proofs.Common.{◌≡◌, ℕ, ◌+◌, ◌/◌, ◌%◌, ◌<◌, ◌≤◌, true, false, eqb, ltb, List, [], ◌∷◌, ◌++◌, length, sym, refl, ◌∙◌, ⊎_elim, arith}
use Rattle.std.proofs.lemmas.Bool.{cond-true, cond-false, cond_both, cases_Bool, ne_eqb, true≢false}
use Rattle.names.specs.Names.{row_count, row_name, name_of}
use Rattle.interfaces.specs.Tasks.{Def, legal, illegal}
use Rattle.text.specs.declared.Text.{Text}
use Rattle.definitions.specs.Memory.{zero_in}
use Rattle.fragment_grammar.specs.Grammar.{Item, plain, insert, choice, closing, question, colon, written, Sound, Reads, done, more}
use Rattle.fragment_grammar.specs.Stands.{fragment_stands}
use Rattle.fragment_grammar.proofs.Standing.{stands_right_lem}

cons_full : (b : ℕ) (bs : List ℕ) → 0 < b → zero_in bs ≡ false → zero_in (b ∷ bs) ≡ false
cons_full b bs l h = cond-false (eqb b 0) true (zero_in bs) (ne_eqb b 0 (λ e. omega arith)) ∙ h

append_full : (xs ys : List ℕ) → zero_in xs ≡ false → zero_in ys ≡ false → zero_in (xs ++ ys) ≡ false
append_full [] ys h k = k
append_full (x ∷ xs) ys h k = ⊎_elim
    (λ t. absurd (true≢false (sym (cond-true (eqb x 0) true (zero_in xs) t) ∙ h)))
    (λ f. cond-false (eqb x 0) true (zero_in (xs ++ ys)) f ∙ append_full xs ys (sym (cond-false (eqb x 0) true (zero_in xs) f) ∙ h) k)
    (cases_Bool (eqb x 0))

row_full : (r : ℕ) → zero_in (row_name r) ≡ false
row_full r = cond_both (ltb r 10) ((48 + r) ∷ []) ((48 + r / 10) ∷ (48 + r % 10) ∷ []) (λ xs. zero_in xs ≡ false)
    (λ t. cons_full (48 + r) [] (omega arith) refl)
    (λ f. cons_full (48 + r / 10) ((48 + r % 10) ∷ []) (omega arith) (cons_full (48 + r % 10) [] (omega arith) refl))

name_then : (n : ℕ) (xs : List ℕ) → zero_in xs ≡ false → zero_in (name_of n ++ xs) ≡ false
name_then n xs h = append_full (name_of n) xs (cons_full (65 + n / row_count) (row_name (n % row_count + 1)) (omega arith) (row_full (n % row_count + 1))) h

word_then : (i : Item) (xs : List ℕ) → Sound i → zero_in xs ≡ false → zero_in (written i ++ xs) ≡ false
word_then i xs s h = append_full (written i) xs (word i s) h
  where
    word : (i : Item) → Sound i → zero_in (written i) ≡ false
    word (plain b) s = cons_full b [] (omega (arith, s.0)) refl
    word (insert c) s = name_then c (closing ∷ []) refl
    word (choice c n m) s = name_then c (question ∷ (name_of n ++ (colon ∷ (name_of m ++ (closing ∷ []))))) (name_then n (colon ∷ (name_of m ++ (closing ∷ []))) (name_then m (closing ∷ []) refl))

reads_full : {xs : List ℕ} {items : List Item} → Reads xs items → zero_in xs ≡ false
reads_full done = refl
reads_full (more {item = i} {rest = rest} s r) = word_then i rest s (reads_full r)

-- a fragment has no zero byte, so memory holds it as it is
pub fragment_full : (text : List ℕ) (d : Def Text) → fragment_stands text ≡ legal d → zero_in text ≡ false
fragment_full text d e = reads_full ((stands_right_lem text).legal_reads d e).1

-- a text that is no fragment goes astray in it, or at its end
pub fragment_within : (text : List ℕ) (place : ℕ) → fragment_stands text ≡ illegal place → place ≤ length text
fragment_within text place e = ((stands_right_lem text).illegal_longest place e).fits
