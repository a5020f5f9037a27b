use Rattle.std.proofs.Common.{◌-◌, ◌≤◌}
use Rattle.cf_table.specs.Groupings.{pattern_of}
use Rattle.cf_witness.specs.Nexts.{LacksMarked}
use Rattle.cf_witness.proofs.next.next_of_base.Given as goal

abbrev pub invariant-loop-number : goal.invariant-loop-number
invariant-loop-number l = (l.from ≤ l.number) × LacksMarked (pattern_of l.table l.g) l.marks l.from l.number

abbrev pub decreases-loop-number : goal.decreases-loop-number
decreases-loop-number l = 2 - l.number
