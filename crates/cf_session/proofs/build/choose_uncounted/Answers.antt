use Rattle.cf_ops.specs.Operations.{of_three}
use Rattle.cf_pkg.specs.Tasks as task
use Rattle.cf_pkg.proofs.Doing.{outcome_values}
use Rattle.cf_session.proofs.build.choose_uncounted.Goals as goal

pub returns-clause-values : goal.returns-clause-values
returns-clause-values g c =
    outcome_values c.args.pkg.now c.choose.new.self (task.Ternary of_three c.args.f c.args.g c.args.h) c.choose.result c.choose.ensures.outcome

pub returns-clause-overflow : goal.returns-clause-overflow
returns-clause-overflow g c = c.choose.ensures.outcome.overflow
