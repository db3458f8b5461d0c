use Rattle.std.proofs.Common.{◌≡◌, arith}
use Rattle.buyer.specs.Fallback.{right_from}
use Rattle.buyer.proofs.Reading.{right_stands}
use Rattle.buyer.proofs.language.read.Goals as goal

pub cell_of-requires-in-len5 : goal.cell_of-requires-in-len5
cell_of-requires-in-len5 c =
    let all : right_from 0 c.args.text.now ≡ 5 = omega arith in
    (right_stands 0 c.args.text.now 3 3 (omega arith) (omega arith), right_stands 0 c.args.text.now 4 4 (omega arith) (omega arith))
