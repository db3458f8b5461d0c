-- A refusal by its number and place, and how long lines are. Assumes nothing.
use Rattle.std.proofs.Common.{◌≡◌, ℕ, ◌<◌, ◌≤◌, List, [], ◌∷◌, ◌++◌, length, Some, None, codes, decimal, arith, length-append}
use Rattle.std.proofs.lemmas.Fmt.{length-decimal-le}
use Rattle.interfaces.specs.Refusals.{Said, no, no_at, said_number, said_place}
use Rattle.names.specs.Names.{name_of}
use Rattle.names.proofs.Standing.{name_length}
use Rattle.answers.specs.Answers.{refusal_line, value_line}

-- a refusal by its number and place
pub said_at : (s : Said) (n p : ℕ) → n ≡ said_number s → Some p ≡ said_place s → s ≡ no_at n p
said_at (no m) n p e f = absurd (let z : ◌≡◌ {A = ℕ} 0 1 = cc in omega arith)
said_at (no_at m q) n p e f = cc

pub said_bare : (s : Said) (n : ℕ) → n ≡ said_number s → None ≡ said_place s → s ≡ no n
said_bare (no m) n e f = cc
said_bare (no_at m q) n e f = absurd (let z : ◌≡◌ {A = ℕ} 0 1 = cc in omega arith)

small : (n : ℕ) → n < 256 → length (decimal n) ≤ 3
small n l = length-decimal-le 3 n (omega arith) (omega arith) (omega arith)

pub at_short : (n p : ℕ) → n < 256 → p < 256 → length (refusal_line (no_at n p)) ≤ 39
at_short n p l m =
    let a = length-append (decimal n) (codes " " ++ (decimal p ++ 10 ∷ [])) in
    let b = length-append (decimal p) (10 ∷ []) in
    let s = small n l in let t = small p m in omega arith

pub bare_short : (n : ℕ) → n < 256 → length (refusal_line (no n)) ≤ 39
bare_short n l = let a = length-append (decimal n) (10 ∷ []) in let s = small n l in omega arith

pub value_short : (cell : ℕ) (bytes : List ℕ) → length bytes ≤ 32 → length (value_line cell bytes) ≤ 39
value_short cell bytes l =
    let a = length-append (name_of cell) (codes " = " ++ (bytes ++ 10 ∷ [])) in
    let b = length-append bytes (10 ∷ []) in
    let n = name_length cell in omega arith
