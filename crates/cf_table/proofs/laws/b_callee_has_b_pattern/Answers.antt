use Rattle.std.proofs.Common.{◌-◌, arith}
use Rattle.cf_table.proofs.Above.{b_above, returns_above}
use Rattle.cf_table.proofs.laws.b_callee_has_b_pattern.Goals as goal

pub returns-clause-callee : goal.returns-clause-callee
returns-clause-callee c = b_above c.args.table.now.levels c.law.ensures.good c.args.g.level (c.args.g.level - 1) c.args.g.at c.args.j (omega (arith, c.requires.level)) c.requires.owned c.requires.middle

pub returns-clause-returns : goal.returns-clause-returns
returns-clause-returns c = returns_above c.args.table.now.levels c.law.ensures.good c.args.g.level (c.args.g.level - 1) c.args.g.at c.args.j (omega (arith, c.requires.level)) c.requires.owned c.requires.middle
