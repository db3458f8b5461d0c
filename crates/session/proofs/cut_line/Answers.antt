use Rattle.std.proofs.Common.{◌≡◌, ℕ, ◌+◌, ◌<◌, ◌≢◌, length, get_or, arith, rules}
use Rattle.std.proofs.lemmas.List.{take_rest}
use Rattle.session.proofs.Running.{cut_ended, cut_last}
use Rattle.session.proofs.cut_line.Goals as goal

pub returns-in-Some-clause-cut : goal.returns-in-Some-clause-cut
returns-in-Some-clause-cut c =
    let w : c.in-Some.place < length c.args.bytes.now = search rules in
    let f : (k : ℕ) → k < c.in-Some.place → get_or c.args.bytes.now k 0 ≢ 10 = search rules in
    let h : get_or c.args.bytes.now c.in-Some.place 0 ≡ 10 = search rules in
    rw (take_rest c.args.bytes.now (c.in-Some.place + 1)) (cut_ended c.args.bytes.now c.in-Some.place (record { within = omega arith; before = f; here = λ _. h }) w)

pub returns-in-None-clause-cut : goal.returns-in-None-clause-cut
returns-in-None-clause-cut c =
    let f : (k : ℕ) → k < length c.args.bytes.now → get_or c.args.bytes.now k 0 ≢ 10 = search rules in
    cut_last c.args.bytes.now (length c.args.bytes.now) (record { within = omega arith; before = f; here = λ l. absurd (omega arith) }) (omega arith) c.requires
