use Rattle.engine.proofs.Ways.{written_as}
use Rattle.engine.proofs.Workbook.edit_written.Goals as goal

pub returns : goal.returns
returns g c = written_as g.V.Value.canon g.V.Printed.written g.V.Printed.unread c.args.bytes.now _ c.read.result c.read.ensures c.give.ensures
