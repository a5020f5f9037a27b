use Rattle.std.proofs.Common.{take}
use Rattle.cf_order.specs.Rings.{Visits}
use Rattle.cf_order.proofs.rings.visit.Given as goal

abbrev pub invariant-loop-need : goal.invariant-loop-need
invariant-loop-need l = Visits (take l.need-index l.needs) l.initial.seen.items l.seen.items
    l.initial.queue.items l.queue.items
