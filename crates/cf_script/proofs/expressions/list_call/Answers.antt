use Rattle.cf_script.proofs.CallFacts.{fold-call, ite-call}
use Rattle.cf_script.proofs.expressions.list_call.Goals as goal

pub returns-in-Fold : goal.returns-in-Fold
returns-in-Fold c = fold-call c.in-Fold.word c.args.head c.args.es c.in-Fold.is

pub returns-in-Ite : goal.returns-in-Ite
returns-in-Ite c = ite-call c.args.head c.args.es c.in-Ite.is
