use Rattle.std.proofs.Common.{◌≡◌, nat_eq, take, map, ◌∷◌}
use Rattle.cf_model.specs.Renumbering.{distinct_on}
use Rattle.cf_table.specs.Groupings.{node_of}
use Rattle.cf_pkg.proofs.reached.insert_callees.Given as goal

abbrev pub invariant-loop-j : goal.invariant-loop-j
invariant-loop-j l = l.places.keys ≡ distinct_on nat_eq l.fn.places.keys ((node_of l.table l.fn.g).a_callee ∷ map (λ b. b.callee) (take l.j (node_of l.table l.fn.g).connections))
