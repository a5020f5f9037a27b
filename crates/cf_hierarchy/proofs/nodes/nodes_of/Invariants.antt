use Rattle.std.proofs.Common.{◌≡◌, ◌++◌, drop}
use Rattle.cf_hierarchy.specs.Spreads.{nodes_from}
use Rattle.cf_hierarchy.proofs.nodes.nodes_of.Given as goal

abbrev pub invariant-loop-i : goal.invariant-loop-i
invariant-loop-i l =
    l.nodes.items ++ nodes_from l.blocks l.spread.copies l.spread.firsts l.i
    (drop l.i l.spread.copies) ≡ nodes_from l.blocks l.spread.copies l.spread.firsts 0
    l.spread.copies
