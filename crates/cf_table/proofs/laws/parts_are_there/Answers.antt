use Rattle.cf_model.proofs.Callees.{sub_in}
use Rattle.cf_table.proofs.laws.parts_are_there.Goals as goal

pub returns : goal.returns
returns c = sub_in c.args.table.now.levels c.law.ensures.good c.args.g.level c.args.g.at c.requires
