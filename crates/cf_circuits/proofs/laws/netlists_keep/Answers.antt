use Rattle.cf_circuits.proofs.KeptLaws.{netlist-kept}
use Rattle.cf_circuits.proofs.laws.netlists_keep.Goals as goal

pub returns : goal.returns
returns c = netlist-kept
