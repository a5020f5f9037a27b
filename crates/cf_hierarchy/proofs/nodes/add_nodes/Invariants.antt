use Rattle.std.proofs.Common.{◌≡◌, ◌++◌, map, take}
use Rattle.cf_hierarchy.specs.Spreads.{node_of}
use Rattle.cf_hierarchy.proofs.nodes.add_nodes.Given as goal

abbrev pub invariant-loop-driver : goal.invariant-loop-driver
invariant-loop-driver l = l.nodes.items ≡ l.initial.nodes.items ++ map
    (node_of l.blocks l.spread.copies l.first l.i) (take l.driver-index l.drivers)
