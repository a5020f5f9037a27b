use Rattle.std.proofs.Common.{◌≡◌, [], ◌+◌, ◌*◌, ◌-◌, get_or, true}
use Rattle.cf_model.specs.Diagrams.{pattern}
use Rattle.cf_table.specs.Groupings.{node_of, patterns_of}
use Rattle.cf_pair.specs.Charges.{IsCharged}
use Rattle.cf_pair.specs.Products.{pair_word, pairs_at, HasListed}
use Rattle.cf_pair.proofs.pairing.+pair.Given as goal

abbrev pub decreases-pair_groupings : goal.decreases-pair_groupings
decreases-pair_groupings g l = 4 * l.g.level

abbrev pub decreases-pair_parts : goal.decreases-pair_parts
decreases-pair_parts g l = 4 * l.g.level - 1

abbrev pub decreases-pair_row : goal.decreases-pair_row
decreases-pair_row g l = 4 * l.b.«to».level + 1

abbrev pub decreases-pair_rows : goal.decreases-pair_rows
decreases-pair_rows g l = 4 * l.g.level - 2

abbrev pub invariant-pair_rows-loop-i : goal.invariant-pair_rows-loop-i
invariant-pair_rows-loop-i g l = record {
  listed : HasListed l.fn.table l.table (l.fn.g.level - 1) (λ i. pair_word (pattern l.fn.table.levels (l.fn.g.level - 1)) (node_of l.fn.table l.fn.g).connections (node_of l.fn.table l.fn.h).connections (get_or (pairs_at l.fn.table.products l.middles) i (0, 0))) l.i l.rows.rows;
  ended : l.rows.begun ≡ [];
  triples : l.table.triples ≡ l.fn.table.triples;
  charged : IsCharged l.fn.table.products l.table.products (patterns_of l.fn.table.levels l.fn.g l.fn.h).0 (patterns_of l.fn.table.levels l.fn.g l.fn.h).1 l.fn.g.level (2 * l.i) l.fn.steps l.steps true;
}
