-- A script is cut, read and answered in one way only. Assumes nothing.
use Rattle.std.proofs.Common.{◌≡◌, ℕ, ◌≤◌, Bool, false, eqb, List, [], ◌∷◌, ◌++◌, length, Result, sym, refl, ap, ◌∙◌, ⊎_elim, arith, length-append}
use Rattle.std.proofs.lemmas.Bool.{cases_Bool, cond-true, cond-false, both_ways}
use Rattle.interfaces.specs.Cells.{but}
use Rattle.interfaces.specs.Refusals.{Said}
use Rattle.names.specs.Names.{name_of}
use Rattle.names.proofs.Standing.{one_name}
use Rattle.answers.specs.Answers.{ok_line, refusal_line, value_line}
use Rattle.whole.specs.declared.Whole.{Whole}
use Rattle.text.specs.declared.Text.{Text as TextValue}
use Rattle.whole.specs.Whole.{whole_blank, written_whole}
use Rattle.text.specs.Text.{text_blank, text_means}
use Rattle.script.specs.declared.lines.Kind.{Kind}
use Rattle.script.specs.declared.lines.Kind.TheVariants.{Sheet, Text}
use Rattle.script.specs.declared.lines.Depth.{Depth}
use Rattle.script.specs.Lines.{line_limit, Unbroken, Cut, ended, last, Request, gets, Reads, set, get, Unread, long, unknown, Opens}
use Rattle.session.specs.Session.{line_of_answer, Edited, held, unfit, taken, Answered, refused, edited, shown, Session, over, goes, SessionOf, long as tooLong, unopened, opened, OneTranscript}
use Rattle.script.proofs.Forms.{set_only, get_only, one_set}

-- the first break of the same bytes stands at one place
split_one : (l m r s : List ℕ) → Unbroken l → Unbroken m → l ++ 10 ∷ r ≡ m ++ 10 ∷ s → (l ≡ m) × (r ≡ s)
split_one [] [] r s u v e = (refl, cc)
split_one [] (b ∷ m) r s u v e = absurd (v.0 (let q : 10 ≡ b = cc in sym q))
split_one (a ∷ l) [] r s u v e = absurd (u.0 (let q : a ≡ 10 = cc in q))
split_one (a ∷ l) (b ∷ m) r s u v e = let i = split_one l m r s u.1 v.1 (cc) in let q : a ≡ b = cc in let i0 = i.0 in (cc, i.1)

broken : (l m r : List ℕ) → Unbroken m → l ++ 10 ∷ r ≡ m → ⊥
broken [] [] r v e = let z : ◌≡◌ {A = ℕ} 0 1 = cc in omega arith
broken [] (b ∷ m) r v e = v.0 (let q : 10 ≡ b = cc in sym q)
broken (a ∷ l) [] r v e = let z : ◌≡◌ {A = ℕ} 0 1 = cc in omega arith
broken (a ∷ l) (b ∷ m) r v e = broken l m r v.1 (cc)

pub one_cut : (b c l m r s : List ℕ) → b ≡ c → Cut b l r → Cut c m s → (l ≡ m) × (r ≡ s)
one_cut b c l m r s e (ended l1 r1 u) (ended m1 s1 v) = split_one l1 m1 r1 s1 u v e
one_cut b c l m r s e (ended l1 r1 u) (last m1 v p) = absurd (broken l1 m1 r1 v e)
one_cut b c l m r s e (last l1 u p) (ended m1 s1 v) = absurd (broken m1 l1 s1 u (sym e))
one_cut b c l m r s e (last l1 u p) (last m1 v q) = (e, refl)

pub no_cut : (b l r : List ℕ) → length b ≡ 0 → Cut b l r → ⊥
no_cut b l r n (ended l1 r1 u) = let k = length-append l1 (10 ∷ r1) in omega arith
no_cut b l r n (last l1 u p) = omega arith

-- a line that has no reading is refused with one number
one_said : (line : List ℕ) (s t : Said) → Unread line s → Unread line t → s ≡ t
one_said line s t (long a) (long b) = refl
one_said line s t (long a) (unknown b n) = absurd (omega arith)
one_said line s t (unknown a n) (long b) = absurd (omega arith)
one_said line s t (unknown a n) (unknown b m) = refl

-- a line that has a reading is not refused
not_said : (line : List ℕ) (s : Said) (q : Request) → Unread line s → length line ≤ line_limit → Reads line q → ⊥
not_said line s q (long a) l d = omega arith
not_said line s q (unknown a n) l d = n q d

-- one reading
pub one_reading_lem : (x y : List ℕ) (q r : Request) → x ≡ y → Reads x q → Reads y r → q ≡ r
one_reading_lem x y q r e (set c v l) d = let o = set_only (name_of c ++ (32 ∷ v)) r (rw (← e) at d) in one_set c o.0 v o.1 l o.2 o.3 ∙ sym o.4
one_reading_lem x y q r e (get c l) d = let o = get_only (name_of c) r (rw (← e) at d) in ap gets (one_name c o.0 l o.1 (sym o.2)) ∙ sym o.3

module _ {V : Type 0} (written : V → List ℕ) (unread : ℕ) (locked : ℕ → Bool) where
  -- two tables that print alike
  Alike : (ℕ → V) → (ℕ → V) → Type 0
  Alike s t = (k : ℕ) → written (s k) ≡ written (t k)

  alike_but : (s t : ℕ → V) (c : ℕ) (v w : V) → Alike s t → written v ≡ written w → Alike (but c v s) (but c w t)
  unfolding Alike
  alike_but s t c v w a e k = ⊎_elim
      (λ h. ap written (cond-true (eqb k c) v (s k) h) ∙ e ∙ sym (ap written (cond-true (eqb k c) w (t k) h)))
      (λ h. ap written (cond-false (eqb k c) v (s k) h) ∙ a k ∙ sym (ap written (cond-false (eqb k c) w (t k) h)))
      (cases_Bool (eqb k c))

  -- edits of one cell by the same bytes answer alike and leave tables that print alike
  one_edit : (s t : ℕ → V) (c : ℕ) (b : List ℕ) (q r : Result (Unit {0}) Said) (u w : ℕ → V) → Alike s t → Edited written unread locked s c b q u → Edited written unread locked t c b r w
      → (q ≡ r) × Alike u w
  one_edit s t c b q r u w a (held l) (held m) = (refl, a)
  one_edit s t c b q r u w a (held l) (unfit m n) = absurd (both_ways (locked c) m l)
  one_edit s t c b q r u w a (held l) (taken v m e) = absurd (both_ways (locked c) m l)
  one_edit s t c b q r u w a (unfit l n) (held m) = absurd (both_ways (locked c) l m)
  one_edit s t c b q r u w a (unfit l n) (unfit m o) = (refl, a)
  one_edit s t c b q r u w a (unfit l n) (taken v m e) = absurd (n v e)
  one_edit s t c b q r u w a (taken v l e) (held m) = absurd (both_ways (locked c) l m)
  one_edit s t c b q r u w a (taken v l e) (unfit m n) = absurd (n v e)
  one_edit s t c b q r u w a (taken v l e) (taken x m f) = (refl, alike_but s t c v x a (e ∙ sym f))

  -- one line prints alike and leaves tables that print alike
  one_answer : (s t : ℕ → V) (l m o p : List ℕ) (u w : ℕ → V) → l ≡ m → Alike s t → Answered written unread locked s l o u → Answered written unread locked t m p w → (o ≡ p) × Alike u w
  unfolding Alike
  one_answer s t l m o p u w e a (refused x h) (refused y j) = (ap refusal_line (one_said l x y h (rw (← e) at j)), a)
  one_answer s t l m o p u w e a (refused x h) (edited c b r z k d f) = absurd (not_said l x _ h (rw (← e) at k) (rw (← e) at d))
  one_answer s t l m o p u w e a (refused x h) (shown c k d) = absurd (not_said l x _ h (rw (← e) at k) (rw (← e) at d))
  one_answer s t l m o p u w e a (edited c b r z k d f) (refused y j) = absurd (not_said m y _ j (rw e at k) (rw e at d))
  one_answer s t l m o p u w e a (edited c b r z k d f) (edited c' b' r' z' k' d' f') =
      let q = one_reading_lem l m _ _ e d d' in
      let n : c ≡ c' = cc in let v : b ≡ b' = cc in
      let i = one_edit s t c b r r' z z' a f (rw (← n, ← v) at f') in
      (ap line_of_answer i.0, i.1)
  one_answer s t l m o p u w e a (edited c b r z k d f) (shown c' k' d') = absurd (let q = one_reading_lem l m _ _ e d d' in let y : ◌≡◌ {A = ℕ} 0 1 = cc in omega arith)
  one_answer s t l m o p u w e a (shown c k d) (refused y j) = absurd (not_said m y _ j (rw e at k) (rw e at d))
  one_answer s t l m o p u w e a (shown c k d) (edited c' b r z k' d' f) = absurd (let q = one_reading_lem l m _ _ e d d' in let y : ◌≡◌ {A = ℕ} 0 1 = cc in omega arith)
  one_answer s t l m o p u w e a (shown c k d) (shown c' k' d') =
      let q = one_reading_lem l m _ _ e d d' in
      let n : c ≡ c' = cc in
      (ap (λ x. value_line x (written (s x))) n ∙ ap (value_line c') (a c'), a)

  one_session : (s t : ℕ → V) (b c o p : List ℕ) → b ≡ c → Alike s t → Session written unread locked s b o → Session written unread locked t c p → o ≡ p
  one_session s t b c o p e a over over = refl
  one_session s t b c o p e a over (goes d f g) = absurd (no_cut _ _ _ (ap length (sym e)) d)
  one_session s t b c o p e a (goes d f g) over = absurd (no_cut _ _ _ (ap length e) d)
  one_session s t b c o p e a (goes d f g) (goes d' f' g') =
      let i = one_cut _ _ _ _ _ _ e d d' in
      let j = one_answer s t _ _ _ _ _ _ i.0 a f f' in
      let k = one_session _ _ _ _ _ _ i.1 j.1 g g' in
      let j0 = j.0 in cc

-- a first line names one kind
one_kind : (line line' : List ℕ) (k k' : Kind) (d d' : Depth) → line ≡ line' → Opens line k d → Opens line' k' d' → k ≡ k'
one_kind line line' Sheet Sheet d d' e a b = refl
one_kind line line' Sheet Text d d' e a b = absurd (let z : ◌≡◌ {A = ℕ} 115 116 = cc in omega arith)
one_kind line line' Text Sheet d d' e a b = absurd (let z : ◌≡◌ {A = ℕ} 116 115 = cc in omega arith)
one_kind line line' Text Text d d' e a b = refl

one_session_of : (k : Kind) (b c o p : List ℕ) → b ≡ c → SessionOf k b o → SessionOf k c p → o ≡ p
unfolding Alike
one_session_of Sheet b c o p e s t = one_session {V = Whole} (λ w. written_whole w.value) 7 (λ _. false) (λ _. whole_blank) (λ _. whole_blank) b c o p e (λ k. refl) s t
one_session_of Text b c o p e s t = one_session {V = TextValue} text_means 8 (λ _. false) (λ _. text_blank) (λ _. text_blank) b c o p e (λ k. refl) s t

pub one_transcript_lem : OneTranscript
one_transcript_lem input o p (tooLong l) (tooLong m) = refl
one_transcript_lem input o p (tooLong l) (unopened m n) = absurd (omega arith)
one_transcript_lem input o p (tooLong l) (opened k d m c a s) = absurd (omega arith)
one_transcript_lem input o p (unopened l n) (tooLong m) = absurd (omega arith)
one_transcript_lem input o p (unopened l n) (unopened m n') = refl
one_transcript_lem input o p (unopened l n) (opened k d m c a s) = absurd (n _ _ k d c a)
one_transcript_lem input o p (opened k d l c a s) (tooLong m) = absurd (omega arith)
one_transcript_lem input o p (opened k d l c a s) (unopened m n) = absurd (n _ _ k d c a)
one_transcript_lem input o p (opened k d l c a s) (opened k' d' m c' a' s') =
    let i = one_cut input input _ _ _ _ refl c c' in
    let j = one_kind _ _ k k' d d' i.0 a a' in
    ap (λ x. ok_line ++ x) (one_session_of k _ _ _ _ i.1 s (rw (← j) at s'))
