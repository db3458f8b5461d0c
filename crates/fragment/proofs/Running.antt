-- The steps of the code are those of the items. Assumes nothing.
use Rattle.std.proofs.Common.{◌≡◌, ℕ, ◌+◌, ◌-◌, ◌<◌, ◌≤◌, Bool, true, false, cond, leb, List, [], ◌∷◌, ◌++◌, map, length, get_or, take, drop, Some, None, Option, Ok, Result, Bor, sym, refl, ap, ◌∙◌, subst, ⊎_elim, arith}
use Rattle.std.proofs.lemmas.List.{drop-map, take_rest}
use Rattle.std.proofs.lemmas.Bool.{cond-true, cond-false, cases_lt, le-leb, lt-leb, and_from}
use Rattle.std.specs.Slice.{IsItemAt}
use Rattle.std.specs.Option.{ok_or}
use Rattle.interfaces.specs.Tasks.{Act, asks, gives, faults, step_of}
use Rattle.text.specs.Text.{text_longest, text_means, text_of, text_canon, text_blank, sound_text, printable_byte, Extends}
use Rattle.text.specs.declared.Text.{Text}
use Rattle.text.specs.Packing.{canon_is}
use Rattle.definitions.specs.Meant.{definition_in, meant}
use Rattle.fragment_grammar.specs.Grammar.{Item, insert, choice, written, IsPlain}
use Rattle.fragment_grammar.specs.Meaning.{Brought, lacks, brings, brought, step_at, runs}
use Rattle.fragment_grammar.specs.Reader.{Rows, row, astray, fronted, rows}
use Rattle.fragment_grammar.specs.Stands.{verdict, fragment_stands}
use Rattle.fragment.specs.declared.run.Stop.{Stop}
use Rattle.fragment.specs.Steps.{joined_as, Grew, RunsAs}
use Rattle.fragment.proofs.Placing.{Next, row_end}

-- a record and its normal form mean the same
same_cond : {A : Type 0} (b : Bool) (x : A) → cond b x x ≡ x
same_cond true x = refl
same_cond false x = refl

pub blank_empty : text_means text_blank ≡ []
blank_empty = same_cond (sound_text text_blank) []

pub blank_canon : text_canon text_blank ≡ text_blank
blank_canon = same_cond (sound_text text_blank) text_blank

pub blank_of : text_of [] ≡ text_blank
blank_of = ap text_of (sym blank_empty) ∙ sym (canon_is text_blank) ∙ blank_canon

canon_by : (t : Text) (b : Bool) → sound_text t ≡ b → text_means (text_canon t) ≡ text_means t
canon_by t true e = ap text_means (cond-true (sound_text t) t text_blank e)
canon_by t false e = ap text_means (cond-false (sound_text t) t text_blank e) ∙ blank_empty ∙ sym (cond-false (sound_text t) _ [] e)

pub canon_means : (t : Text) → text_means (text_canon t) ≡ text_means t
canon_means t = canon_by t (sound_text t) refl

-- what comes of bytes behind a text
pub grew_joined : (b : Brought) (before new : List ℕ) (answers : List Text) (used : ℕ) → b ≡ brings new (drop used answers) → used ≤ length answers → used ≤ 2
    → (o : Option Text) → Extends before new o → (g : Result (Text × ℕ) Stop) → g ≡ joined_as o used → Grew b before answers g
grew_joined b before new answers used e l u None x g q = subst (Grew b before answers) (sym q)
    (new, drop used answers, e, ⊎_elim (λ h. h) (λ h. absurd (x h)) (cases_lt text_longest (length before + length new)))
grew_joined b before new answers used e l u (Some t) x g q = subst (Grew b before answers) (sym q) (new, e, x.0, x.1, l, u)

-- an answer that is there
pub answer_there : {E : Type 0} (answers : List Text) (k : ℕ) (r : Option (Bor Text)) (e : E) (a : Bor Text) → IsItemAt answers k r → ok_or r e ≡ Ok a
    → (k < length answers) × (a.now ≡ get_or answers k text_blank)
answer_there answers k None e a h q = absurd (cc)
answer_there answers k (Some b) e a h q = let u : b ≡ a = cc in (h.3.0, ap (λ x. x.now) (sym u) ∙ h.3.1 text_blank)

-- the answers of an item
pub insert_brings : (c : ℕ) (answers : List Text) (t : Text) → 0 < length answers → t ≡ get_or answers 0 text_blank
    → brought (insert c) (map text_canon answers) ≡ brings (text_means t) (drop 1 (map text_canon answers))
insert_brings c [] t l e = absurd (omega arith)
insert_brings c (u ∷ us) t l e = ap (λ x. brings x (map text_canon us)) (canon_means u ∙ ap text_means (sym e))

pub choice_brings : (c n m : ℕ) (answers : List Text) (t : Text) → 2 ≤ length answers → t ≡ get_or answers 1 text_blank
    → brought (choice c n m) (map text_canon answers) ≡ brings (text_means t) (drop 2 (map text_canon answers))
choice_brings c n m [] t l e = absurd (omega arith)
choice_brings c n m (x ∷ []) t l e = absurd (omega arith)
choice_brings c n m (x ∷ y ∷ ys) t l e = ap (λ b. brings b (map text_canon ys)) (canon_means y ∙ ap text_means (sym e))

-- a plain byte is one that a text may have
pub plain_printable : (b : ℕ) → IsPlain b → printable_byte b ≡ true
plain_printable b h = and_from (leb 32 b) (leb b 126) (le-leb 32 b h.0) (le-leb b 126 h.1)

-- a row that begins with an item
fronted_row : (i : Item) (r : Rows) (items : List Item) → fronted i r ≡ row items → (others : List Item) × (items ≡ i ∷ others) × (r ≡ row others)
fronted_row i (row others) items e = (others, cc, refl)
fronted_row i (astray p) items e = absurd (let z : ◌≡◌ {A = ℕ} 0 1 = cc in omega arith)

-- the step at the end of the text
pub run_end : (text : List ℕ) (at : ℕ) (before : Text) (answers : List Text) → length text ≤ at
    → RunsAs text at (text_means before) answers (gives (text_canon before))
run_end text at before answers l items e =
    let q = row_end text at l in
    let u : items ≡ [] = cc in
    ap gives (canon_is before) ∙ ap (λ is. runs at (text_means before) is answers) (sym u)

-- a text that goes astray has no steps to keep to
pub run_astray : (text : List ℕ) (at p : ℕ) (before : List ℕ) (answers : List Text) (act : Act Text) → rows at 0 (drop at text) ≡ astray p
    → RunsAs text at before answers act
run_astray text at p before answers act q items e = absurd (let z : ◌≡◌ {A = ℕ} 0 1 = cc in omega arith)

-- the step at an item
module _ (text : List ℕ) (at : ℕ) (i : Item) (next : ℕ) (h : Next text at i next) (before : List ℕ) (answers : List Text) where
  run_at : (act : Act Text)
      → ((others : List Item) → rows next 0 (drop next text) ≡ row others → act ≡ step_at at before (brought i answers) (λ both left. runs (at + length (written i)) both others left))
      → RunsAs text at before answers act
  run_at act go items e =
      let f = fronted_row i (rows next 0 (drop next text)) items (sym h.row_on ∙ e) in
      go f.0 f.2 ∙ ap (λ is. runs at before is answers) (sym f.1)

  pub run_asks : (c : ℕ) → brought i answers ≡ lacks c → RunsAs text at before answers (asks c)
  run_asks c b = run_at (asks c) (λ others q. sym (ap (λ x. step_at at before x (λ both left. runs (at + length (written i)) both others left)) b))

  pub run_overflows : (new : List ℕ) (left : List Text) → brought i answers ≡ brings new left → text_longest < length before + length new
      → (act : Act Text) → act ≡ faults 14 at → RunsAs text at before answers act
  run_overflows new left b l act f = run_at act (λ others q. f ∙ sym (
      ap (λ x. step_at at before x (λ both left. runs (at + length (written i)) both others left)) b
      ∙ cond-false (leb (length before + length new) text_longest) (runs (at + length (written i)) (before ++ new) others left) (faults 14 at) (lt-leb (length before + length new) text_longest l)))

  pub run_joined : (new both : List ℕ) (left : List Text) (act : Act Text) → brought i answers ≡ brings new left → length before + length new ≤ text_longest
      → both ≡ before ++ new → RunsAs text next both left act → RunsAs text at before answers act
  run_joined new both left act b l j r = run_at act (λ others q.
      r others q ∙ ap (λ n. runs n both others left) h.width ∙ ap (λ x. runs (at + length (written i)) x others left) j ∙ sym (
      ap (λ x. step_at at before x (λ both left. runs (at + length (written i)) both others left)) b
      ∙ cond-true (leb (length before + length new) text_longest) (runs (at + length (written i)) (before ++ new) others left) (faults 14 at) (le-leb (length before + length new) text_longest l)))

-- answers that are left
pub answers_left : (answers : List Text) (used : ℕ) → map text_canon (take (length answers - used) (drop used answers)) ≡ drop used (map text_canon answers)
answers_left answers used = ap (map text_canon) (take_rest answers used) ∙ sym (drop-map text_canon used answers)

-- the step of a held text
pub step_legal : (text : List ℕ) (items : List Item) (answers : List Text) (act : Act Text) → rows 0 0 text ≡ row items → act ≡ runs 0 [] items answers
    → act ≡ step_of text_blank (meant fragment_stands text) answers
step_legal [] items answers act e r =
    let u : items ≡ [] = cc in
    r ∙ ap (λ is. runs 0 [] is answers) u ∙ ap gives blank_of
step_legal (b ∷ bs) items answers act e r = r ∙ sym (ap (λ x. step_of text_blank (definition_in (verdict x)) answers) e)
