use Rattle.fragment.proofs.Placing.{cell_read, cell_within}
use Rattle.fragment.proofs.item.cell_from.Goals as goal

pub returns-clause-reads : goal.returns-clause-reads
returns-clause-reads c = cell_read c.args.text.now c.args.at c.name_or_end.result c.name_or_end.ensures

pub returns-clause-within : goal.returns-clause-within
returns-clause-within c = cell_within c.args.text.now c.args.at c.requires c.name_or_end.result c.name_or_end.ensures
