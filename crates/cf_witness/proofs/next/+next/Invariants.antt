use Rattle.std.proofs.Common.{◌-◌, ◌*◌, ◌≤◌}
use Rattle.cf_table.specs.Groupings.{pattern_of}
use Rattle.cf_witness.proofs.Halves.{HasCome}
use Rattle.cf_witness.proofs.next.+next.Given as goal

abbrev pub decreases-next_place : goal.decreases-next_place
decreases-next_place l = 2 * l.g.level

abbrev pub decreases-next_in_row : goal.decreases-next_in_row
decreases-next_in_row l = 2 * l.g.level - 1

abbrev pub invariant-next_place-loop-first : goal.invariant-next_place-loop-first
invariant-next_place-loop-first l = HasCome (pattern_of l.table l.g) l.marks l.from l.half l.first l.second × (l.second ≤ l.half)

abbrev pub decreases-next_place-loop-first : goal.decreases-next_place-loop-first
decreases-next_place-loop-first l = l.half - l.first
