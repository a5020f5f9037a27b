use Rattle.std.proofs.Common.{◌<◌, length, get_or, arith, ◌∙◌, ap, subst, sym}
use Rattle.std.specs.Prelude.{slice_index}
use Rattle.cf_hierarchy.specs.declared.blocks.Block.{Block}
use Rattle.cf_hierarchy.specs.Spreads.{IsReached}
use Rattle.cf_hierarchy.proofs.Growth.{blank}
use Rattle.cf_hierarchy.proofs.NodeLaws.{drivers_read, driver_read, reached, back_there}
use Rattle.cf_hierarchy.proofs.nodes.add_nodes.Goals as goal

pub node_at-requires-clause-formal : goal.node_at-requires-clause-formal
node_at-requires-clause-formal c k e low =
    let w = subst (λ copies. (get_or copies c.args.i blank).block < length c.args.blocks.now)
    (sym c.items.ensures) (c.requires.grown.there c.args.i c.requires.there) in
    let ds = drivers_read c.args.blocks.now c.items.result.now c.args.spread.now.copies c.args.i
    c.index-blocks-instance.result c.items-drivers.result.now c.items.ensures w
    c.index-blocks-instance.is
    (c.items-drivers.ensures ∙ ap (λ (b : Block). b.drivers) (sym c.index-blocks-instance.is)) in
    let at = driver_read c.items-drivers.result.now _ c.loop-driver.driver-index
    c.driver-item.result _ ds c.loop-driver-test.true c.driver-item.is e in
    subst (λ copies. IsReached c.args.blocks.now copies c.args.i k)
    (sym c.items-in-loop-driver.ensures)
    (reached c.args.blocks.now c.args.spread.now.copies c.args.spread.now.firsts
    c.args.spread.now.end c.requires.blocks c.requires.grown c.requires.all c.args.i
    c.requires.there k c.loop-driver.driver-index at low)

pub node_at-requires-clause-back : goal.node_at-requires-clause-back
node_at-requires-clause-back c j f e =
    let w = subst (λ copies. (get_or copies c.args.i blank).block < length c.args.blocks.now)
    (sym c.items.ensures) (c.requires.grown.there c.args.i c.requires.there) in
    let ds = drivers_read c.args.blocks.now c.items.result.now c.args.spread.now.copies c.args.i
    c.index-blocks-instance.result c.items-drivers.result.now c.items.ensures w
    c.index-blocks-instance.is
    (c.items-drivers.ensures ∙ ap (λ (b : Block). b.drivers) (sym c.index-blocks-instance.is)) in
    let at = driver_read c.items-drivers.result.now _ c.loop-driver.driver-index
    c.driver-item.result _ ds c.loop-driver-test.true c.driver-item.is e in
    let b = back_there c.args.blocks.now c.args.spread.now.copies c.args.spread.now.firsts
    c.args.spread.now.end c.requires.blocks c.requires.grown c.requires.all c.args.i
    c.requires.there j f c.loop-driver.driver-index at in
    omega (
      arith,
      b,
      ap (λ xs. slice_index xs c.args.i) c.items-2.ensures,
      ap length
          c.items-in-loop-driver.ensures,
    )
