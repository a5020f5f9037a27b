use Rattle.std.proofs.Common.{drop}
use Rattle.cf_circuit.proofs.PlaneLaws.{Parting}
use Rattle.cf_circuit.proofs.parts.parted.Given as goal

abbrev pub invariant-loop-place : goal.invariant-loop-place
invariant-loop-place l =
    Parting l.planes l.width l.input l.places l.parts.zeros.items l.parts.ones.items l.parts.others.items (drop l.place-index l.places)
