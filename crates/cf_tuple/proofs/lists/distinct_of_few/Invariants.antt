use Rattle.std.proofs.Common.{◌≡◌, take, nat_eq}
use Rattle.cf_model.specs.Renumbering.{distinct}
use Rattle.cf_tuple.proofs.lists.distinct_of_few.Given as goal

abbrev pub invariant-loop-entry : goal.invariant-loop-entry
invariant-loop-entry l = l.seen.items ≡ distinct nat_eq (take l.entry-index l.list)
