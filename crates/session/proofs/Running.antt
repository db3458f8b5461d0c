-- Steps of a session. Assumes nothing.
use Rattle.std.proofs.Common.{◌≡◌, ℕ, suc, ◌+◌, ◌<◌, ◌≤◌, Bool, false, cond, List, [], ◌∷◌, ◌++◌, length, get_or, take, drop, replicate, is_ok, IfOk, Ok, Err, Result, sym, refl, ap, ◌∙◌, arith}
use mathlib.Core.Path.{fun_ext}
use Rattle.std.proofs.lemmas.List.{drop_more, take-append-drop, append-nil, append_assoc, get_or-take, length-take-le, take_at, nil_from_length}
use Rattle.std.proofs.lemmas.Bool.{cond-true, cond-false, le-leb}
use Rattle.interfaces.proofs.Tables.{everywhere}
use Rattle.interfaces.specs.Cells.{but}
use Rattle.interfaces.specs.Refusals.{Said, no}
use Rattle.answers.specs.Answers.{value_line}
use Rattle.answers.specs.Fronts.{line_answer, line_left, over as overFront}
use Rattle.script.specs.Lines.{line_limit, Unbroken, Cut, ended, last, BreakAt, Reads, gets}
use Rattle.session.specs.Session.{Edited, unfit, taken, Answered, shown, Wrote, Session, over, goes, Transcript}

-- bytes without a break, from what stands at each place
pub unbroken : (bytes : List ℕ) → ((k : ℕ) → k < length bytes → get_or bytes k 0 ≡ 10 → ⊥) → Unbroken bytes
unbroken [] h = tt
unbroken (b ∷ bs) h = (h 0 (omega arith), unbroken bs (λ k l e. h (suc k) (omega arith) e))

-- the bytes before the first break have none
before_break : (bytes : List ℕ) (place : ℕ) → BreakAt bytes place → Unbroken (take place bytes)
before_break bytes place b = unbroken (take place bytes) (λ k l e.
    let n = length-take-le place bytes b.within in
    b.before k (omega arith) (sym (get_or-take place bytes k 0 (omega arith)) ∙ e))

pub cut_ended : (bytes : List ℕ) (place : ℕ) → BreakAt bytes place → place < length bytes → Cut bytes (take place bytes) (drop (place + 1) bytes)
cut_ended bytes place b l =
    let t = take-append-drop place bytes in
    let d = drop_more bytes place 0 l in
    let h = b.here l in
    let e : bytes ≡ take place bytes ++ 10 ∷ drop (place + 1) bytes = cc in
    let P : List ℕ → Type 0 = λ x. Cut x (take place bytes) (drop (place + 1) bytes) in
    rw (← e) at (ended (take place bytes) (drop (place + 1) bytes) (before_break bytes place b))

pub cut_last : (bytes : List ℕ) (place : ℕ) → BreakAt bytes place → length bytes ≤ place → 0 < length bytes → Cut bytes bytes []
cut_last bytes place b l p =
    last bytes (unbroken bytes (λ k h e. b.before k (omega arith) e)) p

module _ {V : Type 0} (written : V → List ℕ) (unread : ℕ) (canon : V → V) (locked : ℕ → Bool) where
  -- a write of a value that was read
  pub edit_taken : (before after : ℕ → V) (c : ℕ) (bytes : List ℕ) (v : V) (r : Result (Unit {0}) Said) → locked c ≡ false
      → written v ≡ bytes → written (canon v) ≡ written v
      → r ≡ cond (locked c) (Err (no 3)) (Ok tt)
      → ((k : ℕ) → after k ≡ cond (locked c) (before k) (but c (canon v) before k))
      → Edited written unread locked before c bytes r after
  edit_taken before after c bytes v r l w o a f =
      let q : r ≡ Ok tt = a ∙ cond-false _ _ _ l in
      let s : after ≡ but c (canon v) before = fun_ext (λ k. f k ∙ cond-false _ _ _ l) in
      rw (q, s) (taken (canon v) l (o ∙ w))

  -- bytes that are no value
  pub edit_unfit : (before : ℕ → V) (c : ℕ) (bytes : List ℕ) (r : Result (Unit {0}) Said) → locked c ≡ false → ((v : V) → written v ≡ bytes → ⊥)
      → r ≡ Err (no unread) → Edited written unread locked before c bytes r before
  edit_unfit before c bytes r l n e = rw e (unfit l n)

  -- the value that was read prints as what the store shows
  pub shows_as : (state : ℕ → V) (line : List ℕ) (c : ℕ) (v : V) → length line ≤ line_limit → Reads line (gets c)
      → written (canon v) ≡ written v → canon v ≡ state c → Answered written unread locked state line (value_line c (written v)) state
  shows_as state line c v l d o e =
      let q : written (state c) ≡ written v = ap written (sym e) ∙ o in
      rw (← ap (value_line c) q) (shown c l d)

-- a line that fits its buffer was answered with its length, and stands at the front
pub fits : (out buffer left : List ℕ) (len : ℕ) → length out ≤ length buffer → ◌≡◌ {A = Result ℕ Said} (Ok len) (line_answer out buffer) → left ≡ line_left out buffer → take len left ≡ out
fits out buffer left len l a e =
    let t = le-leb (length out) (length buffer) l in
    let q : ◌≡◌ {A = Result ℕ Said} (Ok len) (Ok (length out)) = a ∙ cond-true _ _ _ t in
    let n : len ≡ length out = cc in
    let f : left ≡ overFront out buffer = e ∙ cond-true _ _ _ t in
    let p = take_at out (drop (length out) buffer) len (sym n) in cc

-- and is not refused
pub never_broken : (out buffer : List ℕ) (s : Said) → length out ≤ length buffer → ◌≡◌ {A = Result ℕ Said} (Err s) (line_answer out buffer) → ⊥
never_broken out buffer s l a =
    let t = le-leb (length out) (length buffer) l in
    let q : ◌≡◌ {A = Result ℕ Said} (Err s) (Ok (length out)) = a ∙ cond-true _ _ _ t in
    let z : ◌≡◌ {A = ℕ} 0 1 = cc in omega arith

module _ {V : Type 0} (written : V → List ℕ) (unread : ℕ) (locked : ℕ → Bool) where
  -- in the midst of a session: what was printed so far, and that what is left completes it
  pub record Under (start : ℕ → V) (lines before : List ℕ) (state : ℕ → V) (locks : ℕ → Bool) (rest out : List ℕ) : Type 0 where
    pub printed : List ℕ
    pub out_is : out ≡ before ++ printed
    pub going : (more : List ℕ) → Session written unread locked state rest more → Session written unread locked start lines (printed ++ more)
    pub locks_are : (k : ℕ) → locks k ≡ locked k

  pub under_none : (start : ℕ → V) (lines before : List ℕ) → Under start lines before start locked lines before
  under_none start lines before = record { printed = []; out_is = sym (append-nil before); going = λ more s. s; locks_are = λ k. refl }

  pub under_more : {start state after : ℕ → V} {lines before rest out line next buffer left : List ℕ} {locks locks' : ℕ → Bool} {r : Result ℕ Said} (out' : List ℕ) (len : ℕ)
      → Under start lines before state locks rest out → Cut rest line next → Wrote written unread locks state line buffer r left after
      → 39 ≤ length buffer → r ≡ Ok len → out' ≡ out ++ take len left → ((k : ℕ) → locks' k ≡ locks k)
      → Under start lines before after locks' next out'
  under_more {start} {state} {after} {lines} {before} {rest} {out} {line} {next} {buffer} {left} {locks} {locks'} out' len u d w b o e k =
      let f : locks ≡ locked = fun_ext u.locks_are in
      let t = fits w.out buffer left len (omega (arith, w.short)) (sym o ∙ w.answer_is) w.left_is in
      let a : Answered written unread locked state line w.out after = rw f at w.answered in
      record {
        printed = u.printed ++ w.out;
        out_is = let x = u.out_is in let y = append_assoc before u.printed w.out in cc;
        going = λ more s. rw (append_assoc u.printed w.out more) (u.going (w.out ++ more) (goes d a s));
        locks_are = λ j. k j ∙ u.locks_are j;
      }

  pub under_all : {start state : ℕ → V} {lines before rest out : List ℕ} {locks : ℕ → Bool} → Under start lines before state locks rest out → length rest ≡ 0
      → (printed : List ℕ) × (out ≡ before ++ printed) × Session written unread locked start lines printed
  under_all {start} {state} {lines} {before} {rest} u l =
      let n = nil_from_length rest l in
      (u.printed, u.out_is, rw (append-nil u.printed) at (u.going [] (rw n over)))

-- what was appended, where memory was found
pub appended : {E : Type 0} (r : Result (Unit {0}) E) (x y z w : List ℕ) → x ≡ cond (is_ok r) y z → y ≡ w → IfOk r (λ _. x ≡ w)
appended (Ok u) x y z w e f = e ∙ f
appended (Err d) x y z w e f = tt

-- a table of blanks
pub all_blank : {V : Type 0} (canon : V → V) (blank : V) (values : List V) (n : ℕ) → canon blank ≡ blank → values ≡ replicate n blank
    → ◌≡◌ {A = ℕ → V} (λ k. canon (get_or values k blank)) (λ _. blank)
all_blank canon blank values n p e = fun_ext (λ k. ap (λ x. canon (get_or x k blank)) e ∙ ap canon (everywhere n k blank) ∙ p)

-- what was printed at the end of nothing
pub printed_as : {input x y out : List ℕ} → Transcript input x → out ≡ y ++ x → y ≡ [] → Transcript input out
printed_as {input} {x} {y} {out} t e n = let q : out ≡ x = e ∙ ap (λ z. z ++ x) n in rw q t
