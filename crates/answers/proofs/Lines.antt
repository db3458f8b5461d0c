-- One write after another over the front of a buffer. Assumes nothing.
use Rattle.std.proofs.Common.{◌≡◌, ℕ, ◌+◌, ◌<◌, ◌≤◌, List, [], ◌∷◌, ◌++◌, length, get_or, take, drop, Err, Result, sym, refl, ap, ◌∙◌, arith, length-append, length-drop}
use Rattle.std.proofs.lemmas.List.{take_more, take-append-drop, append-nil, append_assoc}
use Rattle.std.specs.List.{flat_map}
use Rattle.std.proofs.lemmas.Bool.{lt-leb}
use Rattle.interfaces.specs.Refusals.{Said, no}
use Rattle.answers.specs.Fronts.{zeros, Wrote, line_answer, line_left}

pub wrote_length : {ws orig bytes : List ℕ} {len : ℕ} → Wrote ws orig bytes len → length bytes ≡ length orig
wrote_length {ws} {orig} w = ap length w.holds ∙ (simp (length-append, length-drop) (omega (arith, w.fits)))

-- a line that was broken off
pub line_broken : (ws orig : List ℕ) → length orig < length ws → (◌≡◌ {A = Result ℕ Said} (Err (no 10)) (line_answer ws orig)) × (zeros orig ≡ line_left ws orig)
line_broken ws orig l = let t = lt-leb (length ws) (length orig) l in (rw t refl, rw t refl)

-- pieces joined one by one
pub joined_append : {X : Type 0} (f : X → List ℕ) (xs ys : List X) → flat_map f (xs ++ ys) ≡ flat_map f xs ++ flat_map f ys
joined_append f [] ys = refl
joined_append f (x ∷ xs) ys = ap (λ z. f x ++ z) (joined_append f xs ys) ∙ sym (append_assoc (f x) (flat_map f xs) (flat_map f ys))

pub joined_step : {X : Type 0} (f : X → List ℕ) (xs : List X) (i : ℕ) (d : X) → i < length xs → flat_map f (take (i + 1) xs) ≡ flat_map f (take i xs) ++ f (get_or xs i d)
joined_step f xs i d l =
    let t = take_more xs i d l in
    let j = joined_append f (take i xs) (get_or xs i d ∷ []) in
    let n = append-nil (f (get_or xs i d)) in cc

-- some of the pieces are no longer than all of them
pub joined_within : {X : Type 0} (f : X → List ℕ) (xs : List X) (n : ℕ) → length (flat_map f (take n xs)) ≤ length (flat_map f xs)
joined_within f xs n =
    let t = take-append-drop n xs in
    let j = joined_append f (take n xs) (drop n xs) in
    let e : flat_map f xs ≡ flat_map f (take n xs) ++ flat_map f (drop n xs) = cc in
    let l = length-append (flat_map f (take n xs)) (flat_map f (drop n xs)) in
    let m = ap length e in omega arith
