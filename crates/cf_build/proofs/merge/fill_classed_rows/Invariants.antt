use Rattle.std.proofs.Common.{◌≡◌, ◌+◌, take, map, length}
use Rattle.std.specs.List.{All}
use Rattle.cf_table.specs.Groupings.{node_of}
use Rattle.cf_build.specs.Joining.{AreInTurn, row_connection, classed_connection}
use Rattle.cf_build.proofs.merge.fill_classed_rows.Given as goal

abbrev pub invariant-loop-j : goal.invariant-loop-j
invariant-loop-j l = ((map (row_connection l.labels.items) l.rows.items ≡ map (classed_connection l.classes) (take l.j (node_of l.table l.fn.g).connections)) × AreInTurn 0 l.rows.items (length l.labels.items)) × All (λ r. r.callee.level + 1 ≡ l.fn.g.level) l.rows.items
