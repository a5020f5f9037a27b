use Rattle.cf_flat.proofs.GateFacts.{gates-covers}
use Rattle.cf_flat.proofs.laws.gates_have_covers.Goals as goal

pub returns : goal.returns
returns c = gates-covers
