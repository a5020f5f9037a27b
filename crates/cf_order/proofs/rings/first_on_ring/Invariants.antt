use Rattle.std.proofs.Common.{ℕ, ◌<◌}
use Rattle.cf_order.specs.Rings.{IsOnRing}
use Rattle.cf_order.proofs.rings.first_on_ring.Given as goal

abbrev pub invariant-loop-s : goal.invariant-loop-s
invariant-loop-s l = (r : ℕ) → r < l.s → IsOnRing l.rows r → ⊥
