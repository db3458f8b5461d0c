-- The tests of a record are those that make it sound.
use Rattle.std.proofs.Common.{true, false, refl, ◌∙◌, arith}
use Rattle.text.specs.Packing.{sound_long, sound_seen}
use Rattle.text.proofs.Text.is_sound.Goals as goal

pub returns-then-len-gt-LONGEST : goal.returns-then-len-gt-LONGEST
returns-then-len-gt-LONGEST c = sound_long c.args.self (omega arith)

pub returns-then-all_printable : goal.returns-then-all_printable
returns-then-all_printable c =
    sound_seen c.args.self c.bytes-bytes.result c.from-len.result true c.all_zero.result c.bytes-bytes.ensures c.from-len.ensures (omega arith)
    c.if-all_printable.ensures c.all_zero.ensures

pub returns-else-all_printable : goal.returns-else-all_printable
returns-else-all_printable c =
    c.if-all_printable.false
    ∙ sound_seen c.args.self c.bytes-bytes.result c.from-len.result false _ c.bytes-bytes.ensures c.from-len.ensures (omega arith)
    c.if-all_printable.ensures refl
