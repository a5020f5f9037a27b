use Rattle.std.proofs.Common.{◌≡◌, ◌≢◌, ℕ, ◌<◌, []}
use Rattle.cf_order.specs.declared.walk.Mark.TheVariants as mark
use Rattle.cf_order.specs.Walks.{mark_of}
use Rattle.cf_order.specs.Sound.{Sound}
use Rattle.cf_order.proofs.Work.{Rooted}
use Rattle.cf_order.proofs.order.order_of.Given as goal

abbrev pub invariant-loop-root : goal.invariant-loop-root
invariant-loop-root l = Rooted l.rows l.walk l.root
