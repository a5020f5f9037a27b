use Rattle.cf_circuit.proofs.NeedLaws.{Marking, Needing}
use Rattle.cf_circuit.proofs.needs.needed_wires.Given as goal

abbrev pub invariant-loop-out : goal.invariant-loop-out
invariant-loop-out l = Marking l.flat l.needed.items l.out-index

abbrev pub invariant-loop-place : goal.invariant-loop-place
invariant-loop-place l = Needing l.flat l.needed.items l.place
