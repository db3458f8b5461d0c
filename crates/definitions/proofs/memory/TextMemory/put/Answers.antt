use Rattle.std.proofs.Common.{sym, rules}
use Rattle.std.proofs.lemmas.Bool.{and_from}
use Rattle.definitions.proofs.HeldTexts.{text_put}
use Rattle.definitions.proofs.memory.TextMemory.put.Goals as goal

pub returns : goal.returns
returns c =
    let r = sym c.if-not-has_room.ensures in
    let h = sym c.if-not-can_hold.ensures in
    record {
      answer = sym (and_from _ _ r h);
      texts = text_put c.args.self.now.bytes.now _ c.args.text.now c.args.cell.0 r h (search rules);
      lent = c.write.ensures.lent;
    }
