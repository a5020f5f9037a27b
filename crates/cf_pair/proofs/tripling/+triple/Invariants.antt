use Rattle.std.proofs.Common.{◌≡◌, [], ◌+◌, ◌*◌, ◌-◌, get_or}
use Rattle.cf_model.specs.Diagrams.{pattern}
use Rattle.cf_table.specs.Groupings.{node_of}
use Rattle.cf_pair.specs.Products.{triple_word, HasListed}
use Rattle.cf_pair.specs.Triples.{triples_at, KeepsProducts}
use Rattle.cf_pair.proofs.tripling.+triple.Given as goal

abbrev pub decreases-triple_groupings : goal.decreases-triple_groupings
decreases-triple_groupings g l = 4 * l.f.level

abbrev pub decreases-triple_parts : goal.decreases-triple_parts
decreases-triple_parts g l = 4 * l.f.level - 1

abbrev pub decreases-triple_row : goal.decreases-triple_row
decreases-triple_row g l = 4 * l.x.«to».level + 1

abbrev pub decreases-triple_rows : goal.decreases-triple_rows
decreases-triple_rows g l = 4 * l.f.level - 2

abbrev pub invariant-triple_rows-loop-i : goal.invariant-triple_rows-loop-i
invariant-triple_rows-loop-i g l = record {
  listed : HasListed l.fn.table l.table (l.fn.f.level - 1) (λ i. triple_word (pattern l.fn.table.levels (l.fn.f.level - 1)) (node_of l.fn.table l.fn.f).connections (node_of l.fn.table l.fn.g).connections (node_of l.fn.table l.fn.h).connections (get_or (triples_at l.fn.table l.middles) i (0, 0, 0))) l.i l.rows.rows;
  ended : l.rows.begun ≡ [];
  kept : KeepsProducts l.fn.table l.table l.fn.f.level;
}
