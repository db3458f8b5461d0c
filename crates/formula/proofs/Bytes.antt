-- What a byte is, and which byte it is then.
use Rattle.std.proofs.Common.{◌≡◌, ℕ, ◌+◌, ◌<◌, arith}
use mathlib.Core.Option.{none, some}
use Rattle.std.proofs.lemmas.Bool.Decides.{nat_tests}
use Rattle.names.specs.Names.{column_count}
use Rattle.formula.specs.declared.byte.Operator.{Operator}
use Rattle.formula.specs.declared.byte.Link.TheVariants.{Weak, Strong}
use Rattle.formula.specs.declared.byte.Start.TheVariants.{Negation, Group, Choice, Lookup, Total, Digit, Column}
use Rattle.formula.specs.Bytes.{link_of, digit_of, column_of, start_of}

pub digit_at : (d : ℕ) → d < 10 → digit_of (48 + d) ≡ some d
digit_at d l = grind (arith, nat_tests)

pub column_at_lem : (c : ℕ) → c < column_count → column_of (65 + c) ≡ some c
column_at_lem c l = grind (arith, nat_tests)

pub digit_is : (b d : ℕ) → digit_of b ≡ some d → (d < 10) × (b ≡ 48 + d)
digit_is b d e = grind (arith, nat_tests)

pub column_is : (b c : ℕ) → column_of b ≡ some c → (c < column_count) × (b ≡ 65 + c)
column_is b c e = grind (arith, nat_tests)

pub start_digit_lem : (d : ℕ) → d < 10 → start_of (48 + d) ≡ Digit d
start_digit_lem d l = grind (arith, nat_tests)

pub start_column_lem : (c : ℕ) → c < column_count → start_of (65 + c) ≡ Column c
start_column_lem c l = grind (arith, nat_tests)

pub negation_is : (b : ℕ) → start_of b ≡ Negation → b ≡ 45
negation_is b e = grind (arith, nat_tests)

pub group_is : (b : ℕ) → start_of b ≡ Group → b ≡ 40
group_is b e = grind (arith, nat_tests)

pub choice_is : (b : ℕ) → start_of b ≡ Choice → b ≡ 105
choice_is b e = grind (arith, nat_tests)

pub lookup_is : (b : ℕ) → start_of b ≡ Lookup → b ≡ 97
lookup_is b e = grind (arith, nat_tests)

pub total_is : (b : ℕ) → start_of b ≡ Total → b ≡ 115
total_is b e = grind (arith, nat_tests)

pub start_digit_is : (b d : ℕ) → start_of b ≡ Digit d → (d < 10) × (b ≡ 48 + d)
start_digit_is b d e = grind (arith, nat_tests)

pub start_column_is : (b c : ℕ) → start_of b ≡ Column c → (c < column_count) × (b ≡ 65 + c)
start_column_is b c e = grind (arith, nat_tests)

pub weak_no_digit : (b : ℕ) (o : Operator) → link_of b ≡ Weak o → digit_of b ≡ none
weak_no_digit b o e = grind (arith, nat_tests)

pub strong_no_digit : (b : ℕ) (o : Operator) → link_of b ≡ Strong o → digit_of b ≡ none
strong_no_digit b o e = grind (arith, nat_tests)

pub weak_not_strong : (b : ℕ) (o p : Operator) → link_of b ≡ Weak o → link_of b ≡ Strong p → ⊥
weak_not_strong b o p e f = let z : ◌≡◌ {A = ℕ} 0 1 = cc in omega arith
