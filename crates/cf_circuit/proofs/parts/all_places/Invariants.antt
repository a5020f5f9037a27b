use Rattle.cf_circuit.proofs.PlaneLaws.{Placing}
use Rattle.cf_circuit.proofs.parts.all_places.Given as goal

abbrev pub invariant-loop-place : goal.invariant-loop-place
invariant-loop-place l = Placing l.planes l.places.items l.place
