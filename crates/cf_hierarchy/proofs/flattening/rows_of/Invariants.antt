use Rattle.std.proofs.Common.{◌≡◌, map, take}
use Rattle.cf_hierarchy.specs.Circuits.{needs}
use Rattle.cf_hierarchy.proofs.flattening.rows_of.Given as goal

abbrev pub invariant-loop-node : goal.invariant-loop-node
invariant-loop-node l = l.rows.items ≡ map needs (take l.node-index l.nodes)
