-- Lists that go beside each other.
use Rattle.std.specs.Prelude.{cond, List, length, Some, None, Option, ◌==◌}

-- two lists, where one is as long as the other
abbrev pub paired : {A B : Type 0} → List A → List B → Option (List A × List B)
paired xs ys = cond (length xs == length ys) (Some (xs, ys)) None
