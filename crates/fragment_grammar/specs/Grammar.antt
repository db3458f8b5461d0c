-- The texts that are fragments: rows of items.
use Rattle.std.specs.Prelude.{ℕ, ◌<◌, ◌≤◌, ◌≢◌, List, [], ◌∷◌, ◌++◌}
use Rattle.interfaces.specs.Cells.{cell_count}
use Rattle.names.specs.Names.{name_of}

-- a byte that is itself, a cell whose text is inserted, or a cell that chooses which of two is inserted:
-- the first if its text is not empty, else the second
pub data Item : Type 0 where
  plain : (byte : ℕ) → Item
  insert : (cell : ℕ) → Item
  choice : (tested filled empty : ℕ) → Item

-- the bytes that mark the parts of an item: {
abbrev pub opening : ℕ
opening = 123

-- }
abbrev pub closing : ℕ
closing = 125

-- ?
abbrev pub question : ℕ
question = 63

-- :
abbrev pub colon : ℕ
colon = 58

-- the bytes of an item
abbrev pub written : Item → List ℕ
written (plain b) = b ∷ []
written (insert c) = opening ∷ (name_of c ++ (closing ∷ []))
written (choice c n m) = opening ∷ (name_of c ++ (question ∷ (name_of n ++ (colon ∷ (name_of m ++ (closing ∷ []))))))

-- a plain byte goes from the space to `~` and is no brace
abbrev pub IsPlain : ℕ → Type 0
IsPlain b = (32 ≤ b) × (b ≤ 126) × (b ≢ opening) × (b ≢ closing)

-- an item that a fragment may have
abbrev pub Sound : Item → Type 0
Sound (plain b) = IsPlain b
Sound (insert c) = c < cell_count
Sound (choice c n m) = (c < cell_count) × (n < cell_count) × (m < cell_count)

-- the text is the row of these items
pub data Reads : List ℕ → List Item → Type 0 where
  done : Reads [] []
  more : {item : Item} {rest : List ℕ} {items : List Item} → Sound item → Reads rest items → Reads (written item ++ rest) (item ∷ items)

-- the text is a fragment, its length aside
abbrev pub Legal : List ℕ → Type 0
Legal text = (items : List Item) × Reads text items
