-- What a list of calls comes to, from the making on.
use Rattle.std.specs.Prelude.{◌≡◌, ℕ, Bool, List, [], ◌∷◌, ◌++◌, Ok, Result}
use Rattle.interfaces.specs.declared.refusal.Refusal.{Refusal}
use Rattle.interfaces.specs.Cells.{cell_count, number_of}
use Rattle.interfaces.specs.Tasks.{Verdict}
use Rattle.past.specs.Past.{Request, edit, define, clear, query, request, Past, start, ◌▹◌}
use Rattle.past.specs.Law.{Lawful}
use Rattle.view.specs.View.{View, Shows}
use Rattle.scheduler.specs.declared.answer.Answer.{Answer}
use Rattle.engine.specs.Queries.{Lists, Asked}
use Rattle.replay.specs.declared.Call.{Call}
use Rattle.replay.specs.declared.Call.TheVariants.{Edit, Define, Clear, Query}

-- the request that a call of a list makes: a value in normal form, and for a query lists as long as stated; `work` is
-- the length of the working list
abbrev pub request_of : {V : Type 0} → (canon : V → V) → (work : ℕ) → Call V → Request V
request_of canon work (Edit c v) = edit (number_of c) (Ok (canon v))
request_of canon work (Define c text) = define (number_of c) text.now
request_of canon work (Clear c) = clear (number_of c)
request_of canon work (Query c) = query (number_of c) (record { report = cell_count; chain = cell_count; work = work })

module _ {V : Type 0} where
  -- what was stored at the making
  unfoldable pub first : Past V → ℕ → V
  first (start s) = s
  first (p ▹ k) = first p

  -- the requests of a past, the oldest first
  unfoldable pub requests : Past V → List (Request V)
  requests (start s) = []
  requests (p ▹ k) = requests p ++ (request k ∷ [])

module _ {V : Type 0} (blank : V) (stands : List ℕ → Verdict V) (depth : ℕ) where
  -- the past `p` has grown by calls for the requests `qs`, in their order, each of which came rightly; `w` is what it leaves
  pub record Grown (locks : ℕ → Bool) (p : Past V) (qs : List (Request V)) (w : View V) : Type 0 where
    pub past : Past V
    pub begins : first past ≡ first p
    pub made : requests past ≡ requests p ++ qs
    pub lawful : Lawful blank locks stands depth past
    pub shows : Shows blank locks depth past w

  -- so it is after every lawful past that `before` shows, whichever cells are locked
  abbrev pub Performs : List (Request V) → (before after : View V) → Type 0
  Performs qs before after =
      (locks : ℕ → Bool) (p : Past V) → Lawful blank locks stands depth p → Shows blank locks depth p before → Grown locks p qs after

-- calls for the requests `qs` since a making over the values `values`, and a last query `q`
pub record Replays {V : Type 0} (canon : V → V) (blank : V) (locks : ℕ → Bool) (stands : List ℕ → Verdict V) (depth : ℕ) (values : ℕ → V)
    (qs : List (Request V)) (q : Request V) (lists : Lists) (r : Result (Answer V) Refusal) (w : View V) : Type 0 where
  -- the past before the last query
  pub past : Past V
  -- it begins with these values
  pub begins : first past ≡ values
  -- its calls are those of the list, in their order
  pub made : requests past ≡ qs
  -- each of them came rightly
  pub lawful : Lawful blank locks stands depth past
  -- the last query is answered as that past asks, and `w` is what the past with it leaves
  pub asked : Asked canon blank locks stands depth past q lists r w
