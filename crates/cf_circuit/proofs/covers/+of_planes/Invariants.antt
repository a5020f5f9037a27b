use Rattle.std.proofs.Common.{length}
use Rattle.cf_circuit.proofs.covers.+of_planes.Given as goal

abbrev pub decreases-of_planes : goal.decreases-of_planes
decreases-of_planes l = length l.wires.now
