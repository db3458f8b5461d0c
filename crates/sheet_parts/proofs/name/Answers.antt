use Rattle.sheet_parts.proofs.Means.{name_means}
use Rattle.sheet_parts.proofs.name.Goals as goal

pub returns-clause-means : goal.returns-clause-means
returns-clause-means c = name_means c.args.text.now c.args.at c.name_or_end.result c.name_or_end.ensures
