use Rattle.std.proofs.Common.{◌≡◌, ◌+◌, ◌≤◌, min, drop}
use Rattle.std.specs.Prelude.{slice_index}
use Rattle.std.specs.List.{sum_by}
use Rattle.cf_hierarchy.proofs.sizes.count_of.Given as goal

abbrev pub invariant-loop-model : goal.invariant-loop-model
invariant-loop-model l =
    (min (l.limit + 1) (l.total + sum_by (slice_index l.counts) (drop l.model-index l.called)) ≡ min
    (l.limit + 1) (l.weight + sum_by (slice_index l.counts) l.called)) × (l.total ≤ l.limit + 1)
