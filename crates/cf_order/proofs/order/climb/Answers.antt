use Rattle.std.proofs.Common.{arith, rules, ap, subst, sym}
use Rattle.cf_order.specs.Sound.{Sound}
use Rattle.cf_order.specs.Orders.{IsRing}
use Rattle.cf_order.proofs.Turns.{top_within, here, need_here, turn_new, turn_done, turn_ring, turn_last}
use Rattle.cf_order.proofs.order.climb.Goals as goal

pub needs_of-needs-requires : goal.needs_of-needs-requires
needs_of-needs-requires c = top_within _ _ _ c.loop-frame.invariant.sound c.in-Some.ensures

pub mark-requires : goal.mark-requires
mark-requires c =
    let h = here _ _ _ _ c.loop-frame.invariant.sound c.in-Some.ensures c.needs_of-needs.ensures in
    need_here _ _ _ _ h c.requires.below c.if-frame-needs.true

pub enter-requires : goal.enter-requires
enter-requires c =
    let h = here _ _ _ _ c.loop-frame.invariant.sound c.in-Some.ensures c.needs_of-needs.ensures in
    need_here _ _ _ _ h c.requires.below c.if-frame-needs.true

pub loop-frame-smaller-in_ok-enter-in-New : goal.loop-frame-smaller-in_ok-enter-in-New
loop-frame-smaller-in_ok-enter-in-New c =
    let h = here _ _ _ _ c.loop-frame.invariant.sound c.in-Some.ensures c.needs_of-needs.ensures in
    (turn_new _ _ _ _ h _ c.requires.below c.if-frame-needs.true c.in-New.ensures
    c.in_ok-enter-in-New.ensures).2

pub loop-frame-preserved-in_ok-enter-in-New : goal.loop-frame-preserved-in_ok-enter-in-New
loop-frame-preserved-in_ok-enter-in-New c =
    let h = here _ _ _ _ c.loop-frame.invariant.sound c.in-Some.ensures c.needs_of-needs.ensures in
    let t = turn_new _ _ _ _ h _ c.requires.below c.if-frame-needs.true c.in-New.ensures
    c.in_ok-enter-in-New.ensures in
    record { sound = t.0; keeps = λ s seen. t.1 s (c.loop-frame.invariant.keeps s seen) }

pub loop-frame-smaller-in-Done : goal.loop-frame-smaller-in-Done
loop-frame-smaller-in-Done c =
    let h = here _ _ _ _ c.loop-frame.invariant.sound c.in-Some.ensures c.needs_of-needs.ensures in
    (turn_done _ _ _ _ h _ _ c.if-frame-needs.true c.in-Done.ensures c.pass.ensures).2

pub loop-frame-preserved-in-Done : goal.loop-frame-preserved-in-Done
loop-frame-preserved-in-Done c =
    let h = here _ _ _ _ c.loop-frame.invariant.sound c.in-Some.ensures c.needs_of-needs.ensures in
    let t = turn_done _ _ _ _ h _ _ c.if-frame-needs.true c.in-Done.ensures c.pass.ensures in
    record { sound = t.0; keeps = λ s seen. t.1 s (c.loop-frame.invariant.keeps s seen) }

pub from-requires : goal.from-requires
from-requires c =
    let h = here _ _ _ _ c.loop-frame.invariant.sound c.in-Some.ensures c.needs_of-needs.ensures in
    (turn_ring _ _ _ _ h _ c.if-frame-needs.true c.in-Open.ensures).0

pub returns-in-Open-clause-ring : goal.returns-in-Open-clause-ring
returns-in-Open-clause-ring c =
    let h = here _ _ _ _ c.loop-frame.invariant.sound c.in-Some.ensures c.needs_of-needs.ensures in
    subst (λ ring. IsRing c.args.rows.now ring) (sym c.in_ok-from-in-Open.ensures)
    (turn_ring _ _ _ _ h _ c.if-frame-needs.true c.in-Open.ensures).1

pub leave-requires-clause-within : goal.leave-requires-clause-within
leave-requires-clause-within c = omega (
  arith,
  top_within _ _ _ c.loop-frame.invariant.sound
      c.in-Some.ensures,
  c.loop-frame.invariant.sound.full,
)

pub loop-frame-smaller : goal.loop-frame-smaller
loop-frame-smaller c =
    let h = here _ _ _ _ c.loop-frame.invariant.sound c.in-Some.ensures c.needs_of-needs.ensures in
    (turn_last _ _ _ _ h _ c.if-frame-needs.false c.in_ok-leave.ensures).2

pub loop-frame-preserved : goal.loop-frame-preserved
loop-frame-preserved c =
    let h = here _ _ _ _ c.loop-frame.invariant.sound c.in-Some.ensures c.needs_of-needs.ensures in
    let t = turn_last _ _ _ _ h _ c.if-frame-needs.false c.in_ok-leave.ensures in
    record { sound = t.0; keeps = λ s seen. t.1 s (c.loop-frame.invariant.keeps s seen) }
