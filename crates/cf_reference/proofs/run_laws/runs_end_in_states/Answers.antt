use Rattle.cf_reference.proofs.RunStateLaws.{runs_end_in_states}
use Rattle.cf_reference.proofs.run_laws.runs_end_in_states.Goals as goal

pub returns : goal.returns
returns c = runs_end_in_states
