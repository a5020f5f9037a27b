use Rattle.std.proofs.Common.{sym, ◌∙◌, arith}
use Rattle.cf_script.proofs.WindowFacts.{short-text}
use Rattle.cf_script.proofs.statements.has_wide_number.Goals as goal

pub returns : goal.returns
returns c = sym (c.loop-rest.invariant ∙ short-text c.loop-rest.rest.now (omega (arith, c.loop-rest-test.false)))
