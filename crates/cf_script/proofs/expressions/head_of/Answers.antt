use Rattle.cf_script.proofs.CallFacts.{head-first, head-later}
use Rattle.cf_script.proofs.expressions.head_of.Goals as goal

pub returns-in-Some : goal.returns-in-Some
returns-in-Some c = head-first c.args.word.now c.in-Some.head c.in-Some.ensures

pub returns-in-None : goal.returns-in-None
returns-in-None c = head-later c.args.word.now c.variable_head.result c.in-None.ensures c.variable_head.ensures
