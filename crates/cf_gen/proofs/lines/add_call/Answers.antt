use Rattle.std.proofs.Common.{arith, append_assoc}
use Rattle.cf_gen.proofs.lines.add_call.Goals as goal

pub returns : goal.returns
returns c = grind (arith, append_assoc)
