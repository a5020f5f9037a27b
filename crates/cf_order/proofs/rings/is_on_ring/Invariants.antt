use Rattle.cf_order.proofs.Reaching.{Reaching}
use Rattle.cf_order.proofs.rings.is_on_ring.Given as goal

abbrev pub invariant-loop-i : goal.invariant-loop-i
invariant-loop-i l = Reaching l.rows l.from l.seen.items l.queue.items l.i
