-- The written form of a value.
use Rattle.std.specs.Prelude.{ℕ, ◌-◌, cond, List, ◌++◌, length, take, replicate, Some, None, Option, nat_le}
use Rattle.interfaces.specs.declared.written.Written.{Written}

-- the bytes that are written, without the zeros behind them
abbrev pub written_bytes : Written → List ℕ
written_bytes w = take w.len w.bytes

-- two pieces, one behind the other, if they are at most 32 bytes
abbrev pub written_pieces : List ℕ → List ℕ → Option (List ℕ)
written_pieces front rest = cond (nat_le (length (front ++ rest)) 32) (Some (front ++ rest)) None

-- bytes with zeros behind them, 32 in all
abbrev pub padding : List ℕ → List ℕ
padding bs = bs ++ replicate (32 - length bs) 0
