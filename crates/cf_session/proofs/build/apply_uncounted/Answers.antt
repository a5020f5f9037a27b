use Rattle.cf_ops.specs.Operations.{of_two}
use Rattle.cf_pkg.specs.Tasks as task
use Rattle.cf_pkg.proofs.Doing.{outcome_values}
use Rattle.cf_session.proofs.build.apply_uncounted.Goals as goal

pub returns-clause-values : goal.returns-clause-values
returns-clause-values g c =
    outcome_values c.args.pkg.now c.apply_word.new.self (task.Apply (of_two c.args.word) c.args.f c.args.g) c.apply_word.result c.apply_word.ensures.outcome

pub returns-clause-overflow : goal.returns-clause-overflow
returns-clause-overflow g c = c.apply_word.ensures.outcome.overflow
