use Rattle.std.proofs.Common.{◌≡◌, ◌+◌, nat_eq, take, ◌++◌}
use Rattle.std.specs.List.{flat_map}
use Rattle.cf_model.specs.Renumbering.{distinct}
use Rattle.cf_model.specs.Diagrams.{node}
use Rattle.cf_pkg.specs.Sizes.{places_at, callees}
use Rattle.cf_pkg.proofs.reached.reached_at.Given as goal

abbrev pub invariant-loop-at : goal.invariant-loop-at
invariant-loop-at l = l.here.keys ≡ distinct nat_eq (places_at l.level l.heads ++ flat_map (λ at. callees (node l.table.levels (l.level + 1) at)) (take l.at-index l.above))
