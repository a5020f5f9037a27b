use Rattle.std.proofs.Common.{◌<◌, Bool, false, length, get_or, arith, ◌∙◌, sym}
use Rattle.std.proofs.lemmas.List.{get_or_read}
use Rattle.cf_order.proofs.Reaching.{visit_seen, visit_new, visits_none}
use Rattle.cf_order.proofs.rings.visit.Goals as goal

pub loop-need-init : goal.loop-need-init
loop-need-init c = visits_none _ _

pub loop-need-preserved-then-index : goal.loop-need-preserved-then-index
loop-need-preserved-then-index c =
    let t = get_or c.args.needs.now c.loop-need.need-index 0 in
    let w = c.requires c.loop-need.need-index 0 c.loop-need-test.true in
    let l : t < length c.loop-need.seen.items = omega (arith, w, c.loop-need.invariant.full) in
    visit_seen _ _ _ _ _ _ c.loop-need.invariant c.loop-need-test.true
    (sym (get_or_read c.loop-need.seen.items t c.index.result.now l c.index.ensures false) ∙
    c.if-index.true)

pub loop-need-preserved : goal.loop-need-preserved
loop-need-preserved c =
    let t = get_or c.args.needs.now c.loop-need.need-index 0 in
    let w = c.requires c.loop-need.need-index 0 c.loop-need-test.true in
    let l : t < length c.loop-need.seen.items = omega (arith, w, c.loop-need.invariant.full) in
    visit_new _ _ _ _ _ _ _ c.loop-need.invariant c.loop-need-test.true
    (sym (get_or_read c.loop-need.seen.items t c.index.result.now l c.index.ensures false) ∙
    c.if-index.false) w c.in_ok-push.ensures.items
