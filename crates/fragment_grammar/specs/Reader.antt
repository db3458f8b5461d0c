-- A reader of fragments, as a function of the text. What it reads is told by the grammar, in `StandsRight`.
use Rattle.std.specs.Prelude.{ℕ, zero, suc, ◌+◌, ◌-◌, ◌*◌, Bool, cond, not, ◌&&◌, List, [], ◌∷◌, drop, ◌==◌, nat_le, nat_lt, slice_index}
use Rattle.names.specs.Names.{column_count, row_count}
use Rattle.fragment_grammar.specs.Grammar.{Item, plain, insert, choice, opening, closing, question, colon}

-- what was read and how many bytes it has, or how many bytes went well
pub data Read (A : Type 0) : Type 0 where
  got : (what : A) (width : ℕ) → Read A
  stuck : (place : ℕ) → Read A

-- what was read behind `n` bytes
abbrev pub further : {A : Type 0} → ℕ → Read A → Read A
further n (got a w) = got a (n + w)
further n (stuck p) = stuck (n + p)

-- reads on behind what was read
abbrev pub and_then : {A B : Type 0} → Read A → (A → List ℕ → Read B) → List ℕ → Read B
and_then (got a w) go xs = further w (go a (drop w xs))
and_then (stuck p) go xs = stuck p

-- the first byte; 0, which no fragment has, at the end
abbrev pub head : List ℕ → ℕ
head xs = slice_index xs 0

-- nothing more to read
abbrev pub nothing : {A : Type 0} → A → List ℕ → Read A
nothing a xs = got a 0

-- a byte and what comes behind it
abbrev pub led : {A : Type 0} → ℕ → (List ℕ → Read A) → List ℕ → Read A
led b go xs = cond (head xs == b) (further 1 (go (drop 1 xs))) (stuck 0)

-- a column letter
abbrev pub is_column : ℕ → Bool
is_column b = nat_le 65 b && nat_lt b (65 + column_count)

-- the first digit of a row
abbrev pub is_first : ℕ → Bool
is_first b = nat_le 49 b && nat_le b 57

-- a second digit, if the row is not too large
abbrev pub is_second : ℕ → ℕ → Bool
is_second b d = nat_le 48 d && (nat_le d 57 && nat_le ((b - 48) * 10 + (d - 48)) row_count)

-- the longest name at the front
abbrev pub name_in : List ℕ → Read ℕ
name_in xs =
    cond (is_column (slice_index xs 0))
    (cond (is_first (slice_index xs 1))
    (cond (is_second (slice_index xs 1) (slice_index xs 2))
    (got ((slice_index xs 0 - 65) * row_count + ((slice_index xs 1 - 48) * 10 + (slice_index xs 2 - 48) - 1)) 3)
    (got ((slice_index xs 0 - 65) * row_count + (slice_index xs 1 - 48 - 1)) 2))
    (stuck 1))
    (stuck 0)

-- a name and what comes behind it
abbrev pub named : {A : Type 0} → (ℕ → List ℕ → Read A) → List ℕ → Read A
named go xs = and_then (name_in xs) go xs

-- the last cell of a choice and its end
abbrev pub empty_in : ℕ → ℕ → List ℕ → Read Item
empty_in c n xs = named (λ m. led closing (nothing (choice c n m))) xs

-- the second cell of a choice and what comes behind it
abbrev pub filled_in : ℕ → List ℕ → Read Item
filled_in c xs = named (λ n. led colon (empty_in c n)) xs

-- what comes behind the first cell of braces
abbrev pub tested_in : ℕ → List ℕ → Read Item
tested_in c xs = cond (head xs == closing) (led closing (nothing (insert c)) xs) (led question (filled_in c) xs)

-- a byte that is itself
abbrev pub is_plain : ℕ → Bool
is_plain b = nat_le 32 b && (nat_le b 126 && (not (b == opening) && not (b == closing)))

-- the item at the front
abbrev pub item_in : List ℕ → Read Item
item_in xs = cond (is_plain (head xs)) (got (plain (head xs)) 1) (led opening (named tested_in) xs)

-- the items of a text, or the place where it goes astray
pub data Rows : Type 0 where
  row : List Item → Rows
  astray : (place : ℕ) → Rows

-- one more item in front
abbrev pub fronted : Item → Rows → Rows
fronted item (row items) = row (item ∷ items)
fronted item (astray place) = astray place

-- the items that begin with the one that was read at `at`; it goes on as many bytes behind its first one as it has left
abbrev pub continued : ℕ → Read Item → (ℕ → Rows) → Rows
continued at (got item w) go = fronted item (go (w - 1))
continued at (stuck p) go = astray (at + p)

-- the items from the place `at` on, after as many bytes as are still of the item before
abbrev pub rows : ℕ → ℕ → List ℕ → Rows
rows at skip [] = row []
rows at zero (b ∷ bs) = continued at (item_in (b ∷ bs)) (λ n. rows (at + 1) n bs)
rows at (suc n) (b ∷ bs) = rows (at + 1) n bs
