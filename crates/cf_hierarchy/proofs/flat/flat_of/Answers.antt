use Rattle.std.proofs.Common.{◌+◌, ◌<◌, get_or, arith, ap, ◌∙◌, subst, sym, length}
use Rattle.cf_hierarchy.specs.Circuits.{AddsNode, Shows}
use Rattle.cf_hierarchy.proofs.Wiring.{needs_within, node_ok, wired_more, all_shown, all_below}
use Rattle.cf_hierarchy.proofs.flat.flat_of.Goals as goal

pub wire_of-requires-clause-needs : goal.wire_of-requires-clause-needs
wire_of-requires-clause-needs c i d l =
    let w = needs_within _ _ c.requires.order c.loop-signal.signal-index c.loop-signal-test.true
    c.index-nodes-signal.result c.index-nodes-signal.is i d l in
    omega (arith, w, c.loop-signal.invariant.full, ap length c.as_slice.ensures.value)

pub loop-signal-preserved : goal.loop-signal-preserved
loop-signal-preserved c =
    let x = c.index-nodes-signal.result in
    wired_more c.args.nodes.now c.args.order.now c.requires.order c.args.inputs c.loop-signal.gates
    c.wire_of.new.gates c.loop-signal.wires.items c.loop-signal.signal-index c.in_ok-wire.wire x
    c.loop-signal.invariant c.loop-signal-test.true c.index-nodes-signal.is
    (node_ok _ _ c.requires.order _ c.requires.nodes _ c.loop-signal-test.true x
    c.index-nodes-signal.is)
    (subst (λ ws. AddsNode c.args.inputs ws c.loop-signal.gates c.wire_of.new.gates
    c.in_ok-wire.wire x) c.as_slice.ensures.value c.in_ok-wire.ensures)

pub returns-clause-wires : goal.returns-clause-wires
returns-clause-wires c s h =
    subst (λ ws. get_or ws s 0 < c.args.inputs + length c.loop-signal.gates) (sym c.of.ensures)
    (all_below _ _ c.requires.order _ _ _ _ c.loop-signal.invariant (omega arith) s h)

pub returns-clause-shows : goal.returns-clause-shows
returns-clause-shows c s h =
    subst (λ ws. Shows c.args.nodes.now c.args.inputs c.loop-signal.gates s (get_or ws s 0))
    (sym c.of.ensures)
    (all_shown _ _ c.requires.order _ _ _ _ c.loop-signal.invariant (omega arith) s h)

pub returns-clause-signals : goal.returns-clause-signals
returns-clause-signals c = ap length c.of.ensures ∙ c.loop-signal.invariant.full
