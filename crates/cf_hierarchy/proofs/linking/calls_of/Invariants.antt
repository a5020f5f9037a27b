use Rattle.std.proofs.Common.{◌≡◌, take}
use Rattle.cf_hierarchy.specs.Links.{calls}
use Rattle.cf_hierarchy.proofs.linking.calls_of.Given as goal

abbrev pub invariant-loop-block : goal.invariant-loop-block
invariant-loop-block l = l.rows.items ≡ calls (take l.block-index l.blocks)
