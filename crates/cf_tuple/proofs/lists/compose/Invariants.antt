use Rattle.std.proofs.Common.{◌≡◌, map, slice_index, take}
use Rattle.cf_tuple.proofs.lists.compose.Given as goal

abbrev pub invariant-loop-i : goal.invariant-loop-i
invariant-loop-i l = l.list.items ≡ map (λ i. slice_index l.outer i) (take l.i-index l.inner)
