use Rattle.std.proofs.Common.{◌+◌, ◌*◌, map}
use Rattle.cf_build.specs.Joining.{row_connection}
use Rattle.cf_build.specs.Parts.{HasThinned}
use Rattle.cf_build.proofs.merge.+merge.Given as goal

abbrev pub decreases-join : goal.decreases-join
decreases-join l = 4 * l.a.level + 3

abbrev pub decreases-merge : goal.decreases-merge
decreases-merge l = 4 * l.g.level

abbrev pub decreases-thin : goal.decreases-thin
decreases-thin l = 4 * l.g.level + 1

abbrev pub decreases-thin_rows : goal.decreases-thin_rows
decreases-thin_rows l = 4 * l.level + 2

abbrev pub invariant-thin_rows-loop-i : goal.invariant-thin_rows-loop-i
invariant-thin_rows-loop-i l = HasThinned l.fn.table l.table l.level (map (row_connection l.labels) l.rows) l.i l.conns.items
