use Rattle.std.proofs.Common.{◌≡◌, take}
use Rattle.cf_flat.proofs.copies.planes_of.Given as goal

abbrev pub invariant-loop-plane : goal.invariant-loop-plane
invariant-loop-plane l = l.copy ≡ take l.plane-index l.planes
