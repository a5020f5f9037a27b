use Rattle.std.proofs.Common.{◌+◌, List, ℕ, subst, sym}
use Rattle.cf_circuit.proofs.PlaneLaws.{Placing, placing_more}
use Rattle.cf_circuit.proofs.parts.all_places.Goals as goal

pub loop-place-preserved : goal.loop-place-preserved
loop-place-preserved c =
    subst (λ (ps : List ℕ). Placing c.args.planes.now ps (c.loop-place.place + 1)) (sym c.in_ok-push.ensures.ok)
    (placing_more c.args.planes.now c.loop-place.places.items c.loop-place.place c.loop-place-test.true c.loop-place.invariant)
