use Rattle.std.proofs.Common.{◌≡◌, [], ◌+◌, ◌*◌, ◌-◌, get_or}
use Rattle.cf_model.specs.Diagrams.{connection_at, pattern, row}
use Rattle.cf_table.specs.Groupings.{node_of}
use Rattle.cf_kron.specs.Transposed.{turned_exits, AreTranspositions, HasRows}
use Rattle.cf_kron.proofs.transposition.+transpose.Given as goal

abbrev pub decreases-transpose_once : goal.decreases-transpose_once
decreases-transpose_once l = 5 * l.g.level + 1

abbrev pub decreases-transpose_parts : goal.decreases-transpose_parts
decreases-transpose_parts l = 5 * l.g.level

abbrev pub decreases-transpose_above : goal.decreases-transpose_above
decreases-transpose_above l = 5 * l.g.level - 1

abbrev pub decreases-transposed_row : goal.decreases-transposed_row
decreases-transposed_row l = 5 * l.conn.«to».level + 2

abbrev pub decreases-transposed_rows : goal.decreases-transposed_rows
decreases-transposed_rows l = 5 * l.g.level - 2

abbrev pub invariant-transposed_rows-loop-i : goal.invariant-transposed_rows-loop-i
invariant-transposed_rows-loop-i l = record {
  listed : HasRows l.fn.table l.table (l.fn.g.level - 1) (λ i. turned_exits (l.fn.g.level - 1) (row (pattern l.fn.table.levels (l.fn.g.level - 1)) (connection_at (node_of l.fn.table l.fn.g).connections (get_or l.fn.middles i 0)))) l.i l.rows.rows;
  ended : l.rows.begun ≡ [];
  known : AreTranspositions l.table.levels l.done.entries;
}
