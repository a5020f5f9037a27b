use Rattle.cf_hierarchy.proofs.Sizing.{Sized}
use Rattle.cf_hierarchy.proofs.sizes.sizes_of.Given as goal

abbrev pub invariant-loop-model : goal.invariant-loop-model
invariant-loop-model l = Sized l.calls l.weights l.order l.limit l.heights.items l.counts.items
    l.model-index
