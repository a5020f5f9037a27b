use Rattle.std.proofs.Common.{◌-◌, arith}
use Rattle.cf_table.proofs.Above.{a_above}
use Rattle.cf_table.proofs.laws.a_callee_has_a_pattern.Goals as goal

pub returns : goal.returns
returns c = a_above c.args.table.now.levels c.law.ensures.good c.args.g.level (c.args.g.level - 1) c.args.g.at (omega (arith, c.requires.level)) c.requires.owned
