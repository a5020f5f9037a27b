use Rattle.std.proofs.Common.{◌-◌, arith}
use Rattle.cf_table.proofs.Above.{rows_above, middles_above}
use Rattle.cf_table.proofs.laws.rows_are_numbered.Goals as goal

pub returns-clause-canon : goal.returns-clause-canon
returns-clause-canon c = rows_above c.args.table.now.levels c.law.ensures.good c.args.g.level (c.args.g.level - 1) c.args.g.at (omega (arith, c.requires.level)) c.requires.owned

pub returns-clause-middles : goal.returns-clause-middles
returns-clause-middles c = middles_above c.args.table.now.levels c.law.ensures.good c.args.g.level (c.args.g.level - 1) c.args.g.at (omega (arith, c.requires.level)) c.requires.owned
