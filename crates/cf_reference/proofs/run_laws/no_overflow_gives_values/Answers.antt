use Rattle.cf_reference.proofs.ValueLaws.{over-none}
use Rattle.cf_reference.proofs.run_laws.no_overflow_gives_values.Goals as goal

pub returns : goal.returns
returns c = over-none
