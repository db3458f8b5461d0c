use Rattle.std.proofs.Common.{refl, length, ◌∙◌, rules, arith}
use Rattle.std.proofs.lemmas.Iterator.{YieldsList-from_range}
use Rattle.std.proofs.lemmas.Iterator.Consumers.{YieldsList-at, YieldsList-from_filter_map, YieldsList-turn, YieldsList-end}
use Rattle.std.proofs.lemmas.List.{length_push}
use Rattle.table.specs.Records.{record_in}
use Rattle.table.proofs.Marking.{begins, one_turn, all_turned, cell_made, made, length-made, number_at}
use Rattle.table.proofs.Table.mark.Goals as goal

pub loop-cell-init : goal.loop-cell-init
loop-cell-init c = (c.new-known.ensures.of, λ _. rw c.new-known.ensures.nothing (begins c.args.touched (record_in c.args.self.now) 256))

pub loop-cell-preserved : goal.loop-cell-preserved
loop-cell-preserved c =
    let road = YieldsList-at c.into_iter-cell-iterator.ensures.into_iter_gives (YieldsList-from_filter_map _ cell_made (YieldsList-from_range 0 256 256 (search rules) refl) c.filter_map-cell-items.ensures.closure (λ x r q k. (refl, made r x k.met))) in
    let t = YieldsList-turn road c.loop-cell.yielded _ c.loop-cell.yielded_by _ _ c.in-Some.cell c.in-Some.is c.next.ensures.steps in
    let same = c.loop-cell.invariant.0 in (
      c.mark_one.ensures.same ∙ same,
      λ g. rw (length_push c.loop-cell.yielded c.in-Some.cell)
          (one_turn c.args.touched (length c.loop-cell.yielded) (record_in c.args.self.now) (record_in c.loop-cell.self) (record_in c.mark_one.new.self) c.loop-cell.known.reaches c.mark_one.new.known.reaches g (c.loop-cell.invariant.1 g)
          (rw (same, number_at 256 _ _ (omega arith) t.0 t.1) at c.mark_one.ensures.turn)),
    )

pub returns : goal.returns
returns c =
    let road = YieldsList-at c.into_iter-cell-iterator.ensures.into_iter_gives (YieldsList-from_filter_map _ cell_made (YieldsList-from_range 0 256 256 (search rules) refl) c.filter_map-cell-items.ensures.closure (λ x r q k. (refl, made r x k.met))) in
    let t = YieldsList-end road c.loop-cell.yielded _ c.loop-cell.yielded_by _ _ c.in-None.is c.next.ensures.steps in
    let l = t.1 ∙ length-made 256 (omega arith) in
    λ g. all_turned c.args.touched (length c.loop-cell.yielded) c.args.self.now.records _ (record_in c.loop-cell.self) c.loop-cell.known.reaches (omega (arith, c.args.self.now.whole, l)) refl (c.loop-cell.invariant.1 g)
