use Rattle.cf_reference.proofs.FailureLaws.{failures_least}
use Rattle.cf_reference.proofs.run_laws.failures_are_least.Goals as goal

pub returns : goal.returns
returns c = failures_least
