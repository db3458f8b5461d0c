-- The forms of lines: a line has one reading. Assumes nothing.
use Rattle.std.proofs.Common.{◌≡◌, ℕ, ◌+◌, ◌<◌, ◌≤◌, List, ◌∷◌, ◌++◌, length, codes, sym, refl, ap, ◌∙◌, ⊎_elim, arith}
use Rattle.std.proofs.lemmas.List.{append_cancel_left}
use Rattle.std.proofs.lemmas.Bool.{cases_lt}
use Rattle.interfaces.specs.Cells.{cell_count}
use Rattle.names.specs.Names.{name_of}
use Rattle.names.proofs.Standing.{name_ends}
use Rattle.script.specs.Lines.{Request, sets, gets, Reads, set, get}

-- the readings of a line that begins with a word
pub set_only : (rest : List ℕ) (r : Request) → Reads (codes "set " ++ rest) r → (c : ℕ) × (value : List ℕ) × (c < cell_count) × (rest ≡ name_of c ++ (32 ∷ value)) × (r ≡ sets c value)
set_only rest r d = go _ r d refl
  where
    go : (line : List ℕ) (r : Request) → Reads line r → line ≡ codes "set " ++ rest → (c : ℕ) × (value : List ℕ) × (c < cell_count) × (rest ≡ name_of c ++ (32 ∷ value)) × (r ≡ sets c value)
    go line r (set c value l) e = (c, value, l, cc, refl)
    go line r (get c l) e = absurd (let z : ◌≡◌ {A = ℕ} 103 115 = cc in omega arith)

pub get_only : (rest : List ℕ) (r : Request) → Reads (codes "get " ++ rest) r → (c : ℕ) × (c < cell_count) × (name_of c ≡ rest) × (r ≡ gets c)
get_only rest r d = go _ r d refl
  where
    go : (line : List ℕ) (r : Request) → Reads line r → line ≡ codes "get " ++ rest → (c : ℕ) × (c < cell_count) × (name_of c ≡ rest) × (r ≡ gets c)
    go line r (set c value l) e = absurd (let z : ◌≡◌ {A = ℕ} 115 103 = cc in omega arith)
    go line r (get c l) e = (c, l, cc, refl)

-- a line has one reading
pub one_set : (c d : ℕ) (v w : List ℕ) → c < cell_count → d < cell_count → name_of c ++ (32 ∷ v) ≡ name_of d ++ (32 ∷ w) → ◌≡◌ {A = Request} (sets c v) (sets d w)
one_set c d v w lc ld e =
    let n : c ≡ d = ⊎_elim
    (λ (l : length (name_of d) < length (name_of c) + 1). name_ends c d 32 (32 ∷ v) w lc ld (omega arith) (omega arith) e)
    (λ (l : length (name_of c) + 1 ≤ length (name_of d)). sym (name_ends d c 32 (32 ∷ w) v ld lc (omega arith) (omega arith) (sym e)))
    (cases_lt (length (name_of d)) (length (name_of c) + 1)) in
    let f : name_of c ++ (32 ∷ v) ≡ name_of c ++ (32 ∷ w) = e ∙ ap (λ x. name_of x ++ (32 ∷ w)) (sym n) in
    let g = append_cancel_left (name_of c) (32 ∷ v) (32 ∷ w) f in cc

-- a line of no known word has no reading
pub no_word : (line : List ℕ) → ((rest : List ℕ) → line ≡ codes "set " ++ rest → ⊥) → ((rest : List ℕ) → line ≡ codes "get " ++ rest → ⊥) → (r : Request) → Reads line r → ⊥
no_word line s g r (set c value l) = s _ refl
no_word line s g r (get c l) = g _ refl
