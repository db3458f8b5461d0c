-- The texts that memory holds: 48 bytes for each cell, a text and zeros behind it.
use Rattle.std.specs.Prelude.{◌≡◌, ℕ, ◌+◌, ◌-◌, ◌*◌, ◌≤◌, Bool, true, false, cond, not, ◌&&◌, List, [], ◌∷◌, ◌++◌, length, take, drop, replicate, Ok, Err, Result, ◌==◌, nat_le, nat_lt}
use Rattle.std.specs.Borrow.{MutBor}
use Rattle.interfaces.specs.Cells.{text_limit, definition_length, but}
use Rattle.interfaces.specs.Refusals.{Said, no}

-- the bytes before the first zero byte; all of them if there is none
abbrev pub up_to_zero : List ℕ → List ℕ
up_to_zero [] = []
up_to_zero (b ∷ bs) = cond (b == 0) [] (b ∷ up_to_zero bs)

-- where the bytes of the cell with this number begin
abbrev pub start_of : ℕ → ℕ
start_of k = k * text_limit

-- the bytes that memory has for the cell with this number
abbrev pub bytes_at : List ℕ → ℕ → List ℕ
bytes_at memory k = take text_limit (drop (start_of k) memory)

-- the text that memory holds for the cell with this number; an empty one stands for none
abbrev pub text_at : List ℕ → ℕ → List ℕ
text_at memory k = up_to_zero (bytes_at memory k)

-- memory has room for a text of each cell
abbrev pub Roomy : List ℕ → Type 0
Roomy memory = definition_length ≤ length memory

-- the same memory is lent, and it is as long as it was
abbrev pub SameLoan : MutBor (List ℕ) → MutBor (List ℕ) → Type 0
SameLoan before after = (after.ghost_name ≡ before.ghost_name) × (length after.now ≡ length before.now)

-- memory of `n` bytes serves exactly if it has room for a text of each cell
abbrev pub checked : ℕ → Result (Unit {0}) Said
checked n = cond (nat_le definition_length n) (Ok tt) (Err (no 1))

-- whether some byte is zero
abbrev pub zero_in : List ℕ → Bool
zero_in [] = false
zero_in (b ∷ bs) = cond (b == 0) true (zero_in bs)

-- the texts that memory can hold: 1 to 48 bytes, none of them zero
abbrev pub can_keep : List ℕ → Bool
can_keep text = nat_lt 0 (length text) && (nat_le (length text) text_limit && not (zero_in text))

-- whether memory has all bytes of the cell with this number
abbrev pub has_room_lem : List ℕ → ℕ → Bool
has_room_lem memory k = nat_le (start_of (k + 1)) (length memory)

-- whether memory can hold the text for the cell
abbrev pub can_put : List ℕ → ℕ → List ℕ → Bool
can_put memory c text = has_room_lem memory c && can_keep text

-- a text with zeros behind it
abbrev pub padded : List ℕ → List ℕ
padded text = text ++ replicate (text_limit - length text) 0

-- the texts of the cells after a put at the cell `c`: the text there if memory can hold it, else all as they were
abbrev pub after_put : List ℕ → ℕ → List ℕ → ℕ → List ℕ
after_put memory c text k = cond (can_put memory c text) (but c text (text_at memory) k) (text_at memory k)
