use Rattle.std.proofs.Common.{◌≡◌, nat_eq, take}
use Rattle.cf_model.specs.Renumbering.{distinct_on}
use Rattle.cf_pkg.specs.Sizes.{places_at}
use Rattle.cf_pkg.proofs.reached.insert_heads.Given as goal

abbrev pub invariant-loop-head : goal.invariant-loop-head
invariant-loop-head l = l.places.keys ≡ distinct_on nat_eq l.fn.places.keys (places_at l.level (take l.head-index l.heads))
