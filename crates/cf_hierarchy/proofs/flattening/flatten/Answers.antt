use Rattle.std.proofs.Common.{get_or, ◌<◌, List, length, arith, ap, ◌∙◌, subst, sym}
use Rattle.std.specs.List.{All}
use Rattle.std.specs.Prelude.{slice_index}
use Rattle.cf_order.specs.Orders.{IsRing, HasNoRing}
use Rattle.cf_hierarchy.specs.declared.gates.Node.{Node}
use Rattle.cf_hierarchy.specs.Circuits.{IsNode, IsGateOf, Shows}
use Rattle.cf_hierarchy.proofs.Signals.{rows_are, rows_below, cycle, no_cycle, nodes_ok, shows_root, gate_in, all_known, root_within}
use Rattle.cf_hierarchy.proofs.Counting.{few_nodes}
use Rattle.cf_hierarchy.proofs.flattening.flatten.Goals as goal

pub order_of-requires : goal.order_of-requires
order_of-requires c =
    let e = rows_are c.args.blocks.now c.in_ok-spread.spread.copies c.in_ok-spread.spread.firsts _ _
    _ _ c.in_ok-nodes.ensures c.as_slice.ensures.value c.in_ok-rows.ensures
    c.as_slice-2.ensures.value in
    subst (λ rows. All (All (λ t. t < length rows)) rows) (sym e)
    (rows_below c.args.blocks.now c.in_ok-spread.spread.copies c.in_ok-spread.spread.firsts
    c.in_ok-spread.spread.end c.requires.blocks c.in_ok-spread.ensures.grown
    c.in_ok-spread.ensures.all)

pub returns-in-Err-Ring-clause-cycle : goal.returns-in-Err-Ring-clause-cycle
returns-in-Err-Ring-clause-cycle c =
    let e = rows_are c.args.blocks.now c.in_ok-spread.spread.copies c.in_ok-spread.spread.firsts _ _
    _ _ c.in_ok-nodes.ensures c.as_slice.ensures.value c.in_ok-rows.ensures
    c.as_slice-2.ensures.value in
    let r = rw c.in-Err-Ring.field-0-is at c.in-Err-Ring.ensures.ring in
    cycle c.args.blocks.now c.in_ok-spread.spread.copies c.in_ok-spread.spread.firsts
    c.in_ok-spread.spread.end c.requires.blocks c.in_ok-spread.ensures.grown
    c.in_ok-spread.ensures.all
    c.in-Err-Ring.field-0-0 (subst (λ rows. IsRing rows c.in-Err-Ring.field-0-0) e r)

pub flat_of-requires-clause-nodes : goal.flat_of-requires-clause-nodes
flat_of-requires-clause-nodes c =
    subst (λ (ns : List Node). All (IsNode c.args.inputs) ns)
    (sym (c.as_slice-3.ensures.value ∙ c.in_ok-nodes.ensures))
    (nodes_ok c.args.blocks.now c.in_ok-spread.spread.copies c.in_ok-spread.spread.firsts
    c.in_ok-spread.spread.end c.requires.blocks c.in_ok-spread.ensures.grown
    c.in_ok-spread.ensures.all c.args.inputs c.requires.inputs)

pub returns-clause-shows : goal.returns-clause-shows
returns-clause-shows c s h =
    let n = c.as_slice-3.ensures.value ∙ c.in_ok-nodes.ensures in
    let w = root_within c.args.blocks.now c.in_ok-spread.spread.copies c.in_ok-spread.spread.firsts
    c.in_ok-spread.spread.end c.requires.blocks c.in_ok-spread.ensures.grown
    c.in_ok-spread.ensures.all s h in
    let wires = c.in_ok-flat_of.field-0.wires in
    let gates = c.in_ok-flat_of.field-0.gates in
    shows_root c.args.blocks.now c.in_ok-spread.spread.copies c.in_ok-spread.spread.firsts
    c.in_ok-spread.spread.end c.requires.blocks c.in_ok-spread.ensures.grown
    c.in_ok-spread.ensures.all
    c.args.inputs gates wires s h
    (subst (λ (ns : List Node). Shows ns c.args.inputs gates s (slice_index wires s)) n
    (c.in_ok-flat_of.ensures.shows s (omega (arith, w, ap length n))))
    (omega (arith, c.in_ok-flat_of.ensures.signals, ap length n))

pub returns-clause-no_cycle : goal.returns-clause-no_cycle
returns-clause-no_cycle c =
    let e = rows_are c.args.blocks.now c.in_ok-spread.spread.copies c.in_ok-spread.spread.firsts _ _
    _ _ c.in_ok-nodes.ensures c.as_slice.ensures.value c.in_ok-rows.ensures
    c.as_slice-2.ensures.value in
    no_cycle c.args.blocks.now c.in_ok-spread.spread.copies c.in_ok-spread.spread.firsts
    c.in_ok-spread.spread.end c.requires.blocks c.in_ok-spread.ensures.grown
    c.in_ok-spread.ensures.all
    (subst HasNoRing e c.in-Ok.ensures.no_ring)

pub returns-clause-few : goal.returns-clause-few
returns-clause-few c =
    let n = c.as_slice-3.ensures.value ∙ c.in_ok-nodes.ensures in
    let few = few_nodes c.args.blocks.now c.in_ok-spread.spread.copies c.in_ok-spread.spread.firsts
    c.in_ok-spread.spread.end c.args.levels c.requires.blocks c.in_ok-spread.ensures.grown
    c.in_ok-spread.ensures.all c.requires.deep in
    omega (arith, few, c.in_ok-flat_of.ensures.signals, ap length n)

pub returns-clause-wires : goal.returns-clause-wires
returns-clause-wires c s h =
    let n = c.as_slice-3.ensures.value ∙ c.in_ok-nodes.ensures in
    let w = root_within c.args.blocks.now c.in_ok-spread.spread.copies c.in_ok-spread.spread.firsts
    c.in_ok-spread.spread.end c.requires.blocks c.in_ok-spread.ensures.grown
    c.in_ok-spread.ensures.all s h in (
      omega (arith, w, ap length n, c.in_ok-flat_of.ensures.signals),
      c.in_ok-flat_of.ensures.wires s (omega (arith, w, ap length n)),
    )

pub returns-clause-known : goal.returns-clause-known
returns-clause-known c =
    let n = c.as_slice-3.ensures.value ∙ c.in_ok-nodes.ensures in
    let wires = c.in_ok-flat_of.field-0.wires in
    let gates = c.in_ok-flat_of.field-0.gates in
    all_known c.args.blocks.now c.in_ok-spread.spread.copies c.in_ok-spread.spread.firsts
    c.in_ok-spread.spread.end c.requires.blocks c.in_ok-spread.ensures.grown
    c.in_ok-spread.ensures.all c.args.inputs gates wires
    (λ s h. subst (λ (ns : List Node). Shows ns c.args.inputs gates s (slice_index wires s)) n
    (c.in_ok-flat_of.ensures.shows s (omega (arith, h, ap length n))))
    (omega (arith, c.in_ok-flat_of.ensures.signals, ap length n))

pub returns-clause-made : goal.returns-clause-made
returns-clause-made c k d l =
    let n = c.as_slice-3.ensures.value ∙ c.in_ok-nodes.ensures in
    gate_in c.args.blocks.now c.in_ok-spread.spread.copies c.in_ok-spread.spread.firsts
    c.in_ok-spread.spread.end c.requires.blocks c.in_ok-spread.ensures.grown
    c.in_ok-spread.ensures.all _
    (subst (λ (ns : List Node). IsGateOf ns (get_or c.in_ok-flat_of.field-0.gates k d)) n
    (c.in_ok-flat_of.ensures.made k d l))
