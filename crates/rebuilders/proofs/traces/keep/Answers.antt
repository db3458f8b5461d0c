use Rattle.std.proofs.Common.{◌≡◌, ◌+◌, ◌-◌, length, arith}
use Rattle.rebuilders.proofs.Writing.{wrote}
use Rattle.rebuilders.proofs.traces.keep.Goals as goal

pub returns : goal.returns
returns g c =
    let n : length c.args.answers.now ≡ c.args.base + length c.args.answers.now - c.args.base = omega arith in
    rw c.copy_from_slice.ensures.after (wrote c.args.base _ c.args.values.now c.args.answers.now n (omega arith) c.requires.within g.V.Value.blank c.args.res)
