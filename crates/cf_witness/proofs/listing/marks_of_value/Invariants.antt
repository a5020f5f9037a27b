use Rattle.std.proofs.Common.{◌≡◌, map, take}
use Rattle.std.specs.Ordering.{int_eq}
use Rattle.cf_witness.proofs.listing.marks_of_value.Given as goal

abbrev pub invariant-loop-value : goal.invariant-loop-value
invariant-loop-value l = l.marks.items ≡ map (λ w. int_eq w l.v) (take l.value-index l.values)
