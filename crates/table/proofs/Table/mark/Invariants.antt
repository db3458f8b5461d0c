use Rattle.std.proofs.Common.{◌≡◌, length}
use Rattle.table.specs.Records.{record_in, marked_in, cause_in, asked_in}
use Rattle.table.specs.Marks.{Grounded}
use Rattle.table.proofs.Marking.{Sofar}
use Rattle.table.proofs.Table.mark.Given as goal

abbrev pub invariant-loop-cell : goal.invariant-loop-cell
invariant-loop-cell l =
    (l.known.touched ≡ l.fn.touched)
    × (Grounded (marked_in (record_in l.initial.self)) (cause_in (record_in l.initial.self)) (asked_in (record_in l.initial.self))
    → Sofar l.fn.touched (length l.yielded) (record_in l.initial.self) (record_in l.self) l.known.reaches)
