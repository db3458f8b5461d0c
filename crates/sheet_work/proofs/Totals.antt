-- The total of some cells, answer by answer, and that a product of two numbers within the limits fits.
use Rattle.std.proofs.Common.{◌≡◌, ℕ, zero, suc, ◌+◌, ◌-◌, ◌*◌, ◌<◌, ◌≤◌, Bool, true, false, cond, List, [], ◌∷◌, length, get_or, take, drop, ℤ, pos, negsuc, ◌+ℤ◌, ◌*ℤ◌, neg_ℤ, nat_abs, refl, ap, ◌∙◌, mul-le-mul, arith, w64, SFits}
use Rattle.std.specs.Int.Signed.{mag}
use Rattle.std.proofs.lemmas.Bool.{leb-true}
use Rattle.std.proofs.lemmas.Grind.{common_steps}
use Rattle.std.proofs.lemmas.Int.{ints}
use Rattle.std.proofs.lemmas.List.{drop_more, get_or-take, get_or-drop}
use Rattle.interfaces.specs.Tasks.{asks}
use Rattle.whole.specs.declared.Whole.{Whole}
use Rattle.whole.specs.Whole.{whole_limit, within_limits, whole_means}
use Rattle.formula.specs.Meaning.{Outcome, stops, totalled}

-- with too few answers, the cell behind the last one that has an answer is asked for
pub total_short : (mark c more : ℕ) (sum : ℤ) (rest : List Whole) → length rest < more → totalled mark c more sum rest ≡ stops (asks (c + length rest))
total_short mark c zero sum rest l = absurd (omega arith)
total_short mark c (suc more) sum [] l = ap (λ k. stops (asks k)) (omega arith)
total_short mark c (suc more) sum (a ∷ rest) l = total_short mark (c + 1) more (sum +ℤ whole_means a) rest (omega arith) ∙ ap (λ k. stops (asks k)) (omega arith)

-- the next one of the answers that are left for a sum
pub next_answer : (answers : List Whole) (used count i : ℕ) (d : Whole) → i < count → count ≤ length (drop used answers)
    → drop (used + i) answers ≡ get_or (take count (drop used answers)) i d ∷ drop (used + (i + 1)) answers
next_answer answers used count i d l m =
    let k : used + i < length answers = grind (arith, common_steps) in
    let e : used + (i + 1) ≡ used + i + 1 = omega arith in
    rw (e, get_or-take count (drop used answers) i d l, get_or-drop used answers i d) (drop_more answers (used + i) d k)

means_by : (b : Bool) (z : ℤ) → within_limits z ≡ b → nat_abs (cond b z (pos 0)) ≤ whole_limit
means_by true z e = leb-true (nat_abs z) whole_limit e
means_by false z e = omega arith

pub means_within : (v : Whole) → nat_abs (whole_means v) ≤ whole_limit
means_within v = means_by (within_limits v.value) v.value refl

-- a product of numbers within the limits
abs_neg : (n : ℕ) → nat_abs (neg_ℤ (pos n)) ≡ n
abs_neg zero = refl
abs_neg (suc n) = refl

abs_mul : (a b : ℤ) → nat_abs (a *ℤ b) ≡ nat_abs a * nat_abs b
abs_mul (pos a) (pos b) = refl
abs_mul (pos a) (negsuc b) = abs_neg (a * suc b)
abs_mul (negsuc a) (pos b) = abs_neg (suc a * b)
abs_mul (negsuc a) (negsuc b) = refl

mag_le : (z : ℤ) → mag z ≤ nat_abs z
mag_le (pos n) = omega arith
mag_le (negsuc n) = omega arith

pub product_fits : (x y : ℤ) → nat_abs x ≤ whole_limit → nat_abs y ≤ whole_limit → SFits w64 (x *ℤ y)
product_fits x y p q =
    let m : nat_abs x * nat_abs y ≤ whole_limit * whole_limit = mul-le-mul p q in
    let n = abs_mul x y in
    let k = mag_le (x *ℤ y) in
    record { sfits = omega arith }

abs_add : (a b : ℤ) → nat_abs (a +ℤ b) ≤ nat_abs a + nat_abs b
abs_add a b = grind (arith, ints)

-- one cell more of a sum
total_more : (mark c m n : ℕ) (sum : ℤ) (v : Whole) (rest more : List Whole) → m ≡ suc n → rest ≡ v ∷ more
    → totalled mark c m sum rest ≡ totalled mark (c + 1) n (sum +ℤ whole_means v) more
total_more mark c m n sum v rest more e d = rw (e, d) refl

pub total_again : (mark first count i : ℕ) (sum sum' : ℤ) (v : Whole) (rest more : List Whole) (all : Outcome)
    → totalled mark (first + i) (count - i) sum rest ≡ all → i < count → rest ≡ v ∷ more
    → sum' ≡ sum +ℤ whole_means v → nat_abs sum ≤ i * whole_limit
    → (totalled mark (first + (i + 1)) (count - (i + 1)) sum' more ≡ all) × (nat_abs sum' ≤ (i + 1) * whole_limit)
total_again mark first count i sum sum' v rest more all e l d s b =
    let m : count - i ≡ suc (count - (i + 1)) = omega arith in
    let k : first + (i + 1) ≡ first + i + 1 = omega arith in
    let t = total_more mark (first + i) (count - i) (count - (i + 1)) sum v rest more m d in
    let a = abs_add sum (whole_means v) in
    let w = means_within v in
    let z = ap nat_abs s in
    (cc, omega arith)
