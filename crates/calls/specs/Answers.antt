-- What a call answers and leaves: the promise of every call but a query.
use Rattle.std.specs.Prelude.{◌≡◌, ℕ, Bool, List, Ok, Err, Result}
use Rattle.interfaces.specs.Refusals.{Said}
use Rattle.interfaces.specs.Tasks.{Verdict}
use Rattle.past.specs.Past.{Request, Call, refused, edited, defined, cleared, queried, request, Past, ◌▹◌}
use Rattle.past.specs.Law.{Lawful}
use Rattle.view.specs.View.{View, Shows}

-- what the caller is told of a call
abbrev pub answer_of : {M : Type 0} → Call M → Result (Unit {0}) Said
answer_of (refused q said) = Err said
answer_of (edited c v) = Ok tt
answer_of (defined c text d) = Ok tt
answer_of (cleared c) = Ok tt
answer_of (queried c lent log o report) = Ok tt

-- after the past `p`, the request `q` was answered by `r`, and left what `w` shows: there is a call with that request that
-- came rightly, it has that answer, and `w` is what the past with it leaves
pub record Answered {M : Type 0} (blank : M) (locks : ℕ → Bool) (stands : List ℕ → Verdict M) (depth : ℕ) (p : Past M) (q : Request M)
    (r : Result (Unit {0}) Said) (w : View M) : Type 0 where
  pub call : Call M
  pub request_is : request call ≡ q
  pub answer_is : r ≡ answer_of call
  pub lawful : Lawful blank locks stands depth (p ▹ call)
  pub shows : Shows blank locks depth (p ▹ call) w

-- it is so after every lawful past that `before` shows, whichever cells are locked
abbrev pub Answers : {M : Type 0} → M → (List ℕ → Verdict M) → (depth : ℕ) → Request M → Result (Unit {0}) Said → (before after : View M) → Type 0
Answers {M} blank stands depth q r before after =
    (locks : ℕ → Bool) (p : Past M) → Lawful blank locks stands depth p → Shows blank locks depth p before
    → Answered blank locks stands depth p q r after
