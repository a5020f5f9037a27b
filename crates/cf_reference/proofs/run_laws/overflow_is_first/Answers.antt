use Rattle.cf_reference.proofs.FailureLaws.{overflow_first}
use Rattle.cf_reference.proofs.run_laws.overflow_is_first.Goals as goal

pub returns : goal.returns
returns c = overflow_first
