use Rattle.std.proofs.Common.{arith}
use Rattle.names.proofs.column_at.Goals as goal

pub returns-in_err-offset : goal.returns-in_err-offset
returns-in_err-offset c = rw c.from_residual.ensures (λ d l b. c.in_err-offset.ensures d (omega arith) b)
