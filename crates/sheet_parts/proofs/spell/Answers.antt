use Rattle.std.proofs.Common.{◌≡◌, ◌+◌, length, Ok, Err, arith}
use Rattle.std.proofs.lemmas.Grind.{common_steps}
use Rattle.sheet_parts.specs.Tokens.{spelled}
use Rattle.sheet_parts.proofs.Means.{spelled_means}
use Rattle.sheet_parts.proofs.spell.Goals as goal

pub returns-then-not-stands_at : goal.returns-then-not-stands_at
returns-then-not-stands_at c =
    let e : Err (c.args.at + c.loop-i.i) ≡ spelled c.args.text.now c.args.at c.args.word.now = grind (arith, common_steps) in
    record { reads = e; means = spelled_means c.args.text.now c.args.at c.args.word.now _ e }

pub returns : goal.returns
returns c =
    let e : Ok (c.args.at + length c.args.word.now) ≡ spelled c.args.text.now c.args.at c.args.word.now = grind (arith, common_steps) in
    record { reads = e; means = spelled_means c.args.text.now c.args.at c.args.word.now _ e }
