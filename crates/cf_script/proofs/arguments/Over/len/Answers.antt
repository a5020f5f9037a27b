use Rattle.std.proofs.Common.{length, ap, arith}
use Rattle.cf_script.proofs.OverFacts.{over_long}
use Rattle.cf_script.proofs.arguments.Over.len.Goals as goal

pub returns : goal.returns
returns c = omega (arith, over_long c.args.self.now, c.len.ensures, ap length c.items.ensures)
