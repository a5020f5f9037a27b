use Rattle.std.proofs.Common.{◌≡◌, map, take}
use Rattle.cf_table.specs.Groupings.{node_of}
use Rattle.cf_witness.specs.Nexts.{has_marked}
use Rattle.cf_witness.proofs.next.marks_of_middles.Given as goal

abbrev pub invariant-loop-j : goal.invariant-loop-j
invariant-loop-j l = l.middles.items ≡ map (λ b. has_marked l.marks b.returns) (take l.j (node_of l.table l.fn.g).connections)
