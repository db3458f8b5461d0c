-- Fragments that are worked out.
use Rattle.std.specs.Prelude.{◌≡◌, [], ◌∷◌, ◌++◌, length, replicate, codes}
use Rattle.interfaces.specs.Tasks.{asks, gives, faults, Def, legal}
use Rattle.text.specs.Text.{text_means, text_of}
use Rattle.text.specs.declared.Text.{Text}
use Rattle.fragment_grammar.specs.Stands.{fragment_stands}

-- `{A1}{A1}` asks for A1 twice; 16 bytes in it give 32, and 17 fault at the second item
pub record Twice : Type 0 where
  pub means : Def Text
  pub stands : fragment_stands (codes "{A1}{A1}") ≡ legal means
  pub first : means [] ≡ asks 0
  pub second : (t : Text) → length (text_means t) ≡ 16 → means (t ∷ []) ≡ asks 0
  pub fits : (t : Text) → length (text_means t) ≡ 16 → means (t ∷ t ∷ []) ≡ gives (text_of (text_means t ++ text_means t))
  pub gives32 : (t : Text) → length (text_means t) ≡ 16 → length (text_means t ++ text_means t) ≡ 32
  pub faults17 : (t : Text) → length (text_means t) ≡ 17 → means (t ∷ t ∷ []) ≡ faults 14 4

-- 33 plain bytes are legal, and fault at the last of them
pub record Plain33 : Type 0 where
  pub means : Def Text
  pub stands : fragment_stands (replicate 33 97) ≡ legal means
  pub faults33 : means [] ≡ faults 14 32
