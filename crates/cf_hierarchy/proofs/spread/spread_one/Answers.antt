use Rattle.std.proofs.Common.{◌<◌, length, get_or, ◌∙◌, ap, subst, sym}
use Rattle.cf_hierarchy.specs.declared.blocks.Block.{Block}
use Rattle.cf_hierarchy.proofs.Growth.{call_there, block_read, blank}
use Rattle.cf_hierarchy.proofs.spread.spread_one.Goals as goal

pub add_calls-requires : goal.add_calls-requires
add_calls-requires c =
    let w = subst (λ copies. (get_or copies c.args.i blank).block < length c.args.blocks.now)
    (sym c.items.ensures) (c.requires.grown.there c.args.i c.requires.there) in
    call_there _ c.index-blocks-instance.result _
    (block_read _ _ _ c.requires.blocks w c.index-blocks-instance.is)
    (c.items-calls.ensures ∙ ap (λ (b : Block). b.calls) (sym c.index-blocks-instance.is))
