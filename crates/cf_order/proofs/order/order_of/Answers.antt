use Rattle.std.proofs.Common.{arith, rules, ap, subst, sym}
use Rattle.cf_order.specs.Orders.{IsOrder}
use Rattle.cf_order.proofs.Turns.{root_entered, order_found, rooted_started}
use Rattle.cf_order.proofs.RingLaws.{order_has_no_ring}
use Rattle.cf_order.proofs.order.order_of.Goals as goal

pub climb-requires-clause-sound : goal.climb-requires-clause-sound
climb-requires-clause-sound c = root_entered _ _ _ _ c.loop-root.invariant c.loop-root-test.true
    c.in-New.ensures c.in_ok-enter.ensures

pub returns-clause-order : goal.returns-clause-order
returns-clause-order c =
    subst (λ order. IsOrder c.args.rows.now order) (sym c.into_order.ensures)
    (order_found _ _ _ (omega arith) c.loop-root.invariant)

pub returns-clause-no_ring : goal.returns-clause-no_ring
returns-clause-no_ring c = order_has_no_ring _ _
    (order_found _ _ _ (omega arith) c.loop-root.invariant)

pub loop-root-init : goal.loop-root-init
loop-root-init c = rooted_started _ _ c.in_ok-walk.ensures
