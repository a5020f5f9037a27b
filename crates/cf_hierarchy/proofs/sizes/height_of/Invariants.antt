use Rattle.std.proofs.Common.{◌≡◌, ◌≤◌, ◌^◌, max, drop}
use Rattle.cf_order.specs.Chains.{tallest}
use Rattle.cf_hierarchy.proofs.sizes.height_of.Given as goal

abbrev pub invariant-loop-model : goal.invariant-loop-model
invariant-loop-model l = (max l.best (tallest l.heights (drop l.model-index l.called)) ≡ tallest
    l.heights l.called) × (l.best ≤ 2 ^ 62)
