use Rattle.cf_hierarchy.proofs.Wiring.{Wired}
use Rattle.cf_hierarchy.proofs.flat.flat_of.Given as goal

abbrev pub invariant-loop-signal : goal.invariant-loop-signal
invariant-loop-signal l = Wired l.nodes l.order l.inputs l.gates l.wires.items l.signal-index
