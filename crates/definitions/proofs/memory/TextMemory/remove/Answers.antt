use Rattle.std.proofs.Common.{ℕ, refl, arith, length-drop}
use Rattle.std.proofs.lemmas.List.{length-take}
use Rattle.definitions.proofs.HeldTexts.{cleared_part, text_removed}
use Rattle.definitions.proofs.memory.TextMemory.remove.Goals as goal

pub returns-clause-texts : goal.returns-clause-texts
returns-clause-texts c =
    let h = cleared_part c.args.self.now.bytes.now c.fill.new.self c.args.cell.0 _ _ _ c.span_of-start.ensures.start c.span_of-start.ensures.end (omega (arith, length-take {A = ℕ}, length-drop {A = ℕ})) (c.fill.ensures.after (λ y e. e)) in
    text_removed _ _ c.args.cell.0 c.args.cell.0 _ refl (omega arith) h
