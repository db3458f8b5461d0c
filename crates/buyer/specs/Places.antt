-- That a verdict is right: a text is accepted if it is a definition, and else its place is the length of its longest
-- beginning that also begins a definition.
use Rattle.std.specs.Prelude.{◌≡◌, ℕ, ◌<◌, true, List, length, slice_index}
use Rattle.interfaces.specs.Tasks.{Verdict, legal, illegal}
use Rattle.definitions.specs.Longest.{Longest}
use Rattle.whole.specs.declared.Whole.{Whole}
use Rattle.buyer.specs.Fallback.{may_stand_lem, fallback_stands}

-- a definition: five bytes, each of which may stand at its place
pub record Definition (text : List ℕ) : Type 0 where
  pub five : length text ≡ 5
  pub each : (i : ℕ) → i < 5 → may_stand_lem i (slice_index text i) ≡ true

abbrev pub Right : List ℕ → Verdict Whole → Type 0
Right text (legal d) = Definition text
Right text (illegal place) = Longest Definition text place

abbrev pub FallbackPlaces : Type 0
FallbackPlaces = (text : List ℕ) → Right text (fallback_stands text)
