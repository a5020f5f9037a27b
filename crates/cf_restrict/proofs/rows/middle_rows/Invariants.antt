use Rattle.std.proofs.Common.{◌≡◌, [], ◌-◌, get_or}
use Rattle.cf_model.specs.Diagrams.{connection_at, pattern, row}
use Rattle.cf_table.specs.Groupings.{node_of}
use Rattle.cf_pair.specs.Products.{ListEach}
use Rattle.cf_restrict.proofs.rows.middle_rows.Given as goal

abbrev pub invariant-loop-i : goal.invariant-loop-i
invariant-loop-i l = record {
  listed : ListEach l.fn.table.levels (l.fn.g.level - 1) (λ i. row (pattern l.fn.table.levels (l.fn.g.level - 1)) (connection_at (node_of l.fn.table l.fn.g).connections (get_or l.fn.middles i 0))) l.i l.rows.rows;
  ended : l.rows.begun ≡ [];
}
