use Rattle.cf_table.proofs.Told.{told}
use Rattle.cf_table.proofs.same_pattern.Goals as goal

pub returns : goal.returns
returns c = told c.args.table.now.levels c.law.ensures.good c.args.g.level c.args.h.level c.args.g.at c.args.h.at c.requires.level c.requires.first c.requires.second
