use Rattle.std.proofs.Common.{ℕ, ◌*◌, refl, arith, length-append, length-drop}
use Rattle.std.proofs.lemmas.List.{length-take}
use Rattle.definitions.proofs.HeldTexts.{padding_written}
use Rattle.std.proofs.lemmas.Bool.{leb-true}
use Rattle.definitions.proofs.memory.TextMemory.write.Goals as goal

pub returns-clause-bytes : goal.returns-clause-bytes
returns-clause-bytes c =
    let r = leb-true _ _ c.requires.0 in
    padding_written c.args.self.now.bytes.now c.copy_from_slice.new.self c.fill.new.self c.args.text.now (c.number-start.result * 48) _ _ _ _ _ _ c.number-start.ensures.value refl
    (omega arith) c.requires.1 refl (omega arith) (omega arith) (omega (arith, length-take {A = ℕ}, length-drop {A = ℕ}, length-append {A = ℕ})) c.copy_from_slice.ensures.after (c.fill.ensures.after (λ y e. e))
