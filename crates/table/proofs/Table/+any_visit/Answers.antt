use Rattle.std.proofs.Common.{ℕ, ◌+◌, ◌-◌, true, false, List, map, get_or, drop, sym, refl, ap, ◌∙◌, arith}
use Rattle.std.proofs.lemmas.Bool.{eqb-true, eqb-false}
use Rattle.std.proofs.lemmas.List.{drop_more, drop_all}
use Rattle.interfaces.specs.declared.cell.Cell.{Cell}
use Rattle.interfaces.specs.Cells.{number_of}
use Rattle.table.specs.Records.{record_in, asked_in}
use Rattle.table.proofs.Walking.{any_none, any_here, any_below, any_on, visit_found}
use Rattle.table.proofs.Table.+any_visit.Goals as goal
use Rattle.table.proofs.Table.+any_visit.Goals.{any-then-eq-via-then-eq, any-then-eq-via-else-eq+then-visit}

abbrev no_cell : Cell
no_cell = record { 0 = 0 }

abbrev head : List Cell → ℕ → ℕ
head cells i = number_of (get_or cells i no_cell)

-- the cells after this one
abbrev rest : List Cell → ℕ → List ℕ
rest cells i = map number_of (drop (i + 1) cells)

pub any-loop-y-init : goal.any-loop-y-init
any-loop-y-init t c = (refl, λ _ _ v. v)

pub any-loop-y-preserved : goal.any-loop-y-preserved
any-loop-y-preserved t c =
    let cells = c.args.cells.now in
    let i = c.loop-y.y-index in
    let same = c.loop-y.invariant.0 in (
      c.visit.ensures.same ∙ same,
      λ known' b v. c.loop-y.invariant.1 known' b
          (any_on (asked_in (record_in c.args.self.now)) (number_of c.args.known.now.touched) c.args.fuel (rest cells i) (head cells i) c.loop-y.known.reaches c.visit.new.known.reaches known' b
          (ap (map number_of) (drop_more cells i no_cell c.loop-y-test.true)) (λ e. eqb-false _ _ (sym c.if-eq.ensures) (e ∙ ap number_of (sym (c.touched.ensures ∙ same))))
          (rw (c.if-visit.false, same) at c.visit.ensures.told) v),
    )

pub any-returns-then-eq-clause-told : goal.any-returns-then-eq-clause-told
any-returns-then-eq-clause-told t c =
    let asked = asked_in (record_in c.args.self.now) in
    let cells = c.args.cells.now in
    let i = c.loop-y.y-index in
    let same = c.loop-y.invariant.0 in
    let parts = ap (map number_of) (drop_more cells i no_cell c.loop-y-test.true) in
    c.loop-y.invariant.1 c.then-eq.known.reaches true (elim c.then-eq.branch [
      | any-then-eq-via-then-eq w ↦ rw w.known-is (any_here asked (number_of c.args.known.now.touched) c.args.fuel (rest cells i) (head cells i) c.loop-y.known.reaches parts (eqb-true _ _ (sym w.if-eq.ensures) ∙ ap number_of (c.touched.ensures ∙ same)))
      | any-then-eq-via-else-eq+then-visit w ↦ rw w.known-is (any_below asked (number_of c.args.known.now.touched) c.args.fuel (rest cells i) (head cells i) c.loop-y.known.reaches w.visit.new.known.reaches parts (rw (w.if-visit.true, same) at w.visit.ensures.told))
    ])

pub any-returns-clause-told : goal.any-returns-clause-told
any-returns-clause-told t c = c.loop-y.invariant.1 c.loop-y.known.reaches false
    (any_none (asked_in (record_in c.args.self.now)) (number_of c.args.known.now.touched) c.args.fuel c.loop-y.known.reaches (ap (map number_of) (drop_all c.loop-y.y-index c.args.cells.now c.loop-y-test.false)))

pub visit-returns-clause-told : goal.visit-returns-clause-told
visit-returns-clause-told t c =
    let asked = asked_in (record_in c.args.self.now) in
    rw c.set.ensures.kept (visit_found asked (number_of c.args.known.now.touched) c.args.fuel (c.args.fuel - 1) (number_of c.args.x) (map number_of c.as_slice.result.now) c.args.known.now.reaches c.any-found.new.known.reaches c.any-found.result
    (omega (arith, c.if-fuel-eq0.false)) (ap (map number_of) c.as_slice.ensures.cells ∙ ap (λ r. asked_in (λ _. r) 0) c.get-row.ensures.row) c.any-found.ensures.told (omega arith))
