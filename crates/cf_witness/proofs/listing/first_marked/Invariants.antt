use Rattle.std.proofs.Common.{◌-◌, ◌^◌, map, length}
use Rattle.cf_model.specs.Assignments.{bits}
use Rattle.cf_table.specs.Groupings.{pattern_of}
use Rattle.cf_witness.proofs.Listed.{HasListed}
use Rattle.cf_witness.proofs.listing.first_marked.Given as goal

abbrev pub invariant-loop-alloc : goal.invariant-loop-alloc
invariant-loop-alloc l = HasListed (pattern_of l.table l.g) l.marks (2 ^ l.g.level) (map bits l.found.items) l.from l.max

abbrev pub decreases-loop-alloc : goal.decreases-loop-alloc
decreases-loop-alloc l = l.max - length l.found.items
