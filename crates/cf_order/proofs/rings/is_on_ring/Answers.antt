use Rattle.std.proofs.Common.{◌≡◌, ◌<◌, ◌≤◌, ◌++◌, ◌∷◌, [], List, ℕ, Bool, false, length, get_or, replicate, arith, rules, ap, ◌∙◌, sym, subst}
use Rattle.std.specs.Prelude.{IsTrue}
use Rattle.std.proofs.lemmas.List.{get_or_read}
use Rattle.cf_order.specs.Orders.{row}
use Rattle.cf_order.specs.Rings.{IsOnRing}
use Rattle.cf_order.proofs.Reaching.{reaching_zero, reaching_more, on_ring, ring_on, all_met}
use Rattle.cf_order.proofs.rings.is_on_ring.Goals as goal

pub loop-i-init : goal.loop-i-init
loop-i-init c =
    let r : c.in_ok-seen.seen.items ≡ replicate (length c.args.rows.now) false = search rules in
    reaching_zero c.args.rows.now c.args.from c.in_ok-seen.seen.items c.push.new.self.items
    c.requires.there r (c.in_ok-push.ensures.items ∙ ap (λ (q : List ℕ). q ++ c.args.from ∷ [])
    c.new-queue.ensures.items)

pub returns-then-i-len : goal.returns-then-i-len
returns-then-i-len c =
    let all : length c.loop-i.queue.items ≤ c.loop-i.i = omega arith in
    let l : c.args.from < length c.loop-i.seen.items = omega
    (arith, c.requires.there, c.loop-i.invariant.full) in
    let e = get_or_read c.loop-i.seen.items c.args.from c.index.result.now l c.index.ensures false
    in (
      (λ t. on_ring _ _ _ _ _ c.loop-i.invariant all (sym e ∙ t)),
      (λ r. e ∙ ring_on _ _ _ _ _ c.loop-i.invariant all r),
    )

pub loop-i-preserved : goal.loop-i-preserved
loop-i-preserved c =
    let l : c.loop-i.i < length c.loop-i.queue.items = omega arith in
    let e = get_or_read c.loop-i.queue.items c.loop-i.i c.index-in-loop-i.result.now l
    c.index-in-loop-i.ensures 0 in
    reaching_more c.args.rows.now c.args.from _ _ _ _ c.needs_of-needs.result.now c.loop-i.i
    c.requires.below c.loop-i.invariant l (c.needs_of-needs.ensures ∙ ap (row c.args.rows.now)
    e) c.in_ok-visit.ensures

pub returns : goal.returns
returns c =
    let all = all_met _ _ _ _ _ c.loop-i.invariant c.loop-i-test.false in
    let l : c.args.from < length c.loop-i.seen.items = omega
    (arith, c.requires.there, c.loop-i.invariant.full) in
    let e = get_or_read c.loop-i.seen.items c.args.from c.index-2.result.now l c.index-2.ensures
    false in (
      (λ t. on_ring _ _ _ _ _ c.loop-i.invariant all (sym e ∙ t)),
      (λ r. e ∙ ring_on _ _ _ _ _ c.loop-i.invariant all r),
    )
