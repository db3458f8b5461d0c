use Rattle.std.proofs.Common.{◌≡◌, ◌+◌, ◌*◌, Bool, List, Option as Maybe, drop, map}
use Rattle.interfaces.specs.Cells.{number_of}
use Rattle.table.specs.Records.{record_in, asked_in}
use Rattle.table.specs.Walks.{VisitsAny}
use Rattle.table.proofs.Table.+any_visit.Given as goal

abbrev pub decreases-any : goal.decreases-any
decreases-any l = l.fuel * 2 + 1

abbrev pub decreases-visit : goal.decreases-visit
decreases-visit l = l.fuel * 2

-- what the cells that are left make of what is known, all of them make of what was known
abbrev pub invariant-any-loop-y : goal.invariant-any-loop-y
invariant-any-loop-y l =
    let walks = VisitsAny (asked_in (record_in l.initial.self)) (number_of l.initial.known.touched) l.fuel in
    (l.known.touched ≡ l.initial.known.touched)
    × ((known' : List (Maybe Bool)) (b : Bool) → walks (map number_of (drop l.y-index l.cells)) l.known.reaches known' b
    → walks (map number_of l.cells) l.initial.known.reaches known' b)
