-- Three pasts in full, over numbers, with one kept trace for each cell. That they are lawful is proved,
-- so the answers, the reports and the refusals that they hold are those that the law asks for.
use Rattle.std.specs.Prelude.{ℕ, ◌+◌, ◌/◌, Bool, true, false, cond, List, [], ◌∷◌, length, replicate, Ok, Err, ◌==◌, nat_lt}
use Rattle.interfaces.specs.Cells.{cell_count, ask_limit, text_limit, work_length}
use Rattle.interfaces.specs.Refusals.{no, no_at}
use Rattle.interfaces.specs.Tasks.{asks, gives, Def, Verdict, legal, illegal}
use Rattle.interfaces.specs.Traces.{Pair}
use Rattle.past.specs.Afresh.{Finishing, engine, gave, fault}
use Rattle.past.specs.Past.{Lent, Run, edit, define, clear, query, refused, edited, defined, cleared, queried, Past, start, ◌▹◌}
use Rattle.past.specs.Law.{Lawful}

-- some cells
abbrev pub A1 : ℕ
A1 = 0

abbrev pub A2 : ℕ
A2 = 1

abbrev pub A3 : ℕ
A3 = 2

abbrev pub B1 : ℕ
B1 = 16

abbrev pub C1 : ℕ
C1 = 32

abbrev pub D1 : ℕ
D1 = 48

abbrev pub E1 : ℕ
E1 = 64

-- a text, and the definition that it stands for
pub record Meaning : Type 0 where
  pub text : List ℕ
  pub definition : Def ℕ

-- `A1/2`
unfoldable pub half : Def ℕ
half [] = asks A1
half (a ∷ answers) = gives (a / 2)

-- `B1+1`
unfoldable pub one_up : Def ℕ
one_up [] = asks B1
one_up (b ∷ answers) = gives (b + 1)

-- the name of a cell, as `C1`
unfoldable pub copy : ℕ → Def ℕ
copy c [] = asks c
copy c (v ∷ answers) = gives v

-- `A1+A2`
unfoldable pub sum : Def ℕ
sum [] = asks A1
sum (a ∷ []) = asks A2
sum (a ∷ (b ∷ answers)) = gives (a + b)

-- `C1+A1+A1+A1+A1+A1+A1+A1+D1`: its ninth ask is for D1
unfoldable pub nine : Def ℕ
nine [] = asks C1
nine (c ∷ answers) = cond (nat_lt (length answers + 1) ask_limit) (asks A1) (asks D1)

-- the texts, as bytes
abbrev pub half_text : List ℕ
half_text = 65 ∷ 49 ∷ 47 ∷ 50 ∷ []

abbrev pub one_more_text : List ℕ
one_more_text = 66 ∷ 49 ∷ 43 ∷ 49 ∷ []

abbrev pub c1_text : List ℕ
c1_text = 67 ∷ 49 ∷ []

abbrev pub d1_text : List ℕ
d1_text = 68 ∷ 49 ∷ []

abbrev pub sum_text : List ℕ
sum_text = 65 ∷ 49 ∷ 43 ∷ 65 ∷ 50 ∷ []

abbrev pub nine_text : List ℕ
nine_text = 67 ∷ 49 ∷ 43 ∷ 65 ∷ 49 ∷ 43 ∷ 65 ∷ 49 ∷ 43 ∷ 65 ∷ 49 ∷ 43 ∷ 65 ∷ 49 ∷ 43 ∷ 65 ∷ 49 ∷ 43 ∷ 65 ∷ 49 ∷ 43 ∷ 65 ∷ 49 ∷ 43 ∷ 68 ∷ 49 ∷ []

-- they are the same, byte for byte
abbrev pub equal_text : List ℕ → List ℕ → Bool
equal_text [] [] = true
equal_text [] (b ∷ r) = false
equal_text (a ∷ l) [] = false
equal_text (a ∷ l) (b ∷ r) = cond (a == b) (equal_text l r) false

-- how many bytes they begin with alike
abbrev pub shared : List ℕ → List ℕ → ℕ
shared [] text = 0
shared (a ∷ l) [] = 0
shared (a ∷ l) (b ∷ r) = cond (a == b) (shared l r + 1) 0

-- the length of the longest beginning that also begins one of these
abbrev pub farthest : List Meaning → List ℕ → ℕ
farthest [] text = 0
farthest (m ∷ ms) text = cond (nat_lt (farthest ms text) (shared m.text text)) (shared m.text text) (farthest ms text)

-- what a text stands for, among these; `place` is for one that is none of them
abbrev pub among : List Meaning → (place : ℕ) → List ℕ → Verdict ℕ
among [] place text = illegal place
among (m ∷ ms) place text = cond (equal_text m.text text) (legal m.definition) (among ms place text)

-- a language of six texts
abbrev pub meanings : List Meaning
meanings = record { text = half_text; definition = half } ∷ record { text = one_more_text; definition = one_up }
    ∷ record { text = c1_text; definition = copy C1 } ∷ record { text = d1_text; definition = copy D1 }
    ∷ record { text = sum_text; definition = sum } ∷ record { text = nine_text; definition = nine } ∷ []

unfoldable pub stands : List ℕ → Verdict ℕ
stands text = among meanings (farthest meanings text) text

-- no cell is locked
unfoldable pub no_locks : ℕ → Bool
no_locks c = false

-- lists as long as stated
abbrev pub enough : Lent
enough = record { report = cell_count; chain = cell_count; work = work_length }

-- an ask with its answer
abbrev pub pair : ℕ → ℕ → Pair ℕ
pair c v = record { cell = c; value = v }

-- a finishing of the cell, with its asks and its value
abbrev pub ended : ℕ → List (Pair ℕ) → ℕ → Finishing ℕ
ended c asked v = record { cell = c; asks = asked; result = v }

-- a run of the cell for that cause
abbrev pub run_for : ℕ → ℕ → List (Pair ℕ) → ℕ → Run ℕ
run_for c cause asked v = record { cell = c; cause = cause; trace = record { asks = asked; result = v } }

-- the first past: B1 is half of A1, and C1 one more; both have to be run
unfoldable pub first₁ : Past ℕ
first₁ = start (λ c. 0) ▹ edited A1 5 ▹ defined B1 half_text half ▹ defined C1 one_more_text one_up

unfoldable pub first₂ : Past ℕ
first₂ = first₁ ▹ queried C1 enough (ended B1 (pair A1 5 ∷ []) 2 ∷ ended C1 (pair B1 2 ∷ []) 3 ∷ []) (gave 3)
    (run_for B1 B1 (pair A1 5 ∷ []) 2 ∷ run_for C1 C1 (pair B1 2 ∷ []) 3 ∷ [])

-- A1 changes, but B1 comes to what it was: C1 is in doubt for A1 too, and its kept trace fits
unfoldable pub first₃ : Past ℕ
first₃ = first₂ ▹ edited A1 4

unfoldable pub first₄ : Past ℕ
first₄ = first₃ ▹ queried C1 enough (ended B1 (pair A1 4 ∷ []) 2 ∷ ended C1 (pair B1 2 ∷ []) 3 ∷ []) (gave 3)
    (run_for B1 A1 (pair A1 4 ∷ []) 2 ∷ [])

-- a defined cell takes no edit; and with A1 defined as C1 there is a circle, which B1 closes
unfoldable pub first₅ : Past ℕ
first₅ = first₄ ▹ refused (edit B1 (Ok 9)) (no 2) ▹ defined A1 c1_text (copy C1)

unfoldable pub sample : Past ℕ
sample = first₅ ▹ queried A1 enough [] (fault 16 A1 B1 engine (A1 ∷ C1 ∷ B1 ∷ [])) []

-- the second past: B1 is the sum of A1 and A2
unfoldable pub finer₁ : Past ℕ
finer₁ = start (λ c. 0) ▹ edited A1 2 ▹ edited A2 3 ▹ defined B1 sum_text sum

unfoldable pub finer₂ : Past ℕ
finer₂ = finer₁ ▹ queried B1 enough (ended B1 (pair A1 2 ∷ pair A2 3 ∷ []) 5 ∷ []) (gave 5) (run_for B1 B1 (pair A1 2 ∷ pair A2 3 ∷ []) 5 ∷ [])

-- the first edit is to an equal value, so that the second is the first touch: A2 is the cause, and not A1
unfoldable pub finer₃ : Past ℕ
finer₃ = finer₂ ▹ edited A1 2 ▹ edited A2 4 ▹ edited A1 1

unfoldable pub finer₄ : Past ℕ
finer₄ = finer₃ ▹ queried B1 enough (ended B1 (pair A1 1 ∷ pair A2 4 ∷ []) 5 ∷ []) (gave 5) (run_for B1 A2 (pair A1 1 ∷ pair A2 4 ∷ []) 5 ∷ [])

-- back to the first values: the trace that would fit is the older one, which is not kept
unfoldable pub finer₅ : Past ℕ
finer₅ = finer₄ ▹ edited A1 2 ▹ edited A2 3

unfoldable pub finer₆ : Past ℕ
finer₆ = finer₅ ▹ queried B1 enough (ended B1 (pair A1 2 ∷ pair A2 3 ∷ []) 5 ∷ []) (gave 5) (run_for B1 A1 (pair A1 2 ∷ pair A2 3 ∷ []) 5 ∷ [])

-- a definition forgets the runs, so that B1 is run again, though its old trace would fit
unfoldable pub finer₇ : Past ℕ
finer₇ = finer₆ ▹ defined B1 sum_text sum

unfoldable pub finer₈ : Past ℕ
finer₈ = finer₇ ▹ queried B1 enough (ended B1 (pair A1 2 ∷ pair A2 3 ∷ []) 5 ∷ []) (gave 5) (run_for B1 B1 (pair A1 2 ∷ pair A2 3 ∷ []) 5 ∷ [])

-- E1 asks for D1, whose ninth ask is for D1 itself, and that it is the ninth is found first; C1 has finished before
unfoldable pub finer₉ : Past ℕ
finer₉ = finer₈ ▹ defined C1 one_more_text one_up ▹ defined D1 nine_text nine ▹ defined E1 d1_text (copy D1)

unfoldable pub finer₁₀ : Past ℕ
finer₁₀ = finer₉ ▹ queried E1 enough (ended B1 (pair A1 2 ∷ pair A2 3 ∷ []) 5 ∷ ended C1 (pair B1 5 ∷ []) 6 ∷ []) (fault 17 D1 D1 engine (E1 ∷ D1 ∷ []))
    (run_for C1 C1 (pair B1 5 ∷ []) 6 ∷ [])

-- clearing B1 touches it; C1 is in doubt for that, since it has finished
unfoldable pub finer₁₁ : Past ℕ
finer₁₁ = finer₁₀ ▹ cleared B1

unfoldable pub finer_sample : Past ℕ
finer_sample = finer₁₁ ▹ queried C1 enough (ended C1 (pair B1 0 ∷ []) 1 ∷ []) (gave 1) (run_for C1 B1 (pair B1 0 ∷ []) 1 ∷ [])

-- the third past: A3 is locked
unfoldable pub lock_a3 : ℕ → Bool
lock_a3 c = c == A3

-- `A1+`, and one byte more
abbrev pub bad_text : List ℕ
bad_text = 65 ∷ 49 ∷ 43 ∷ 66 ∷ []

-- each cause of a refusal comes up, and where two concern a call, the earlier one of the table is told
unfoldable pub refusals : Past ℕ
refusals = start (λ c. 0) ▹ refused (edit A3 (Err (no 7))) (no 3) ▹ refused (edit A1 (Err (no 7))) (no 7)
    ▹ refused (define A3 []) (no 3) ▹ refused (define B1 []) (no 5) ▹ refused (define B1 (replicate (text_limit + 1) 65)) (no 5) ▹ refused (define B1 bad_text) (no_at 6 3)
    ▹ refused (clear B1) (no 4) ▹ defined B1 half_text half ▹ refused (edit B1 (Err (no 7))) (no 2)

unfoldable pub refusal_sample : Past ℕ
refusal_sample = refusals ▹ refused (query B1 (record { report = 0; chain = cell_count; work = work_length })) (no 1)
    ▹ refused (query B1 (record { report = cell_count; chain = 0; work = work_length })) (no 1)
    ▹ refused (query B1 (record { report = cell_count; chain = cell_count; work = 0 })) (no 1)

-- all three came rightly
abbrev pub SampleIsLawful : Type 0
SampleIsLawful = Lawful 0 no_locks stands 1 sample

abbrev pub FinerSampleIsLawful : Type 0
FinerSampleIsLawful = Lawful 0 no_locks stands 1 finer_sample

abbrev pub RefusalSampleIsLawful : Type 0
RefusalSampleIsLawful = Lawful 0 lock_a3 stands 1 refusal_sample
