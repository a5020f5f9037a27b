use Rattle.std.proofs.Common.{take}
use Rattle.cf_model.specs.Renumbering.{IsCanon}
use Rattle.cf_tuple.proofs.lists.rgs_of_few.Given as goal

abbrev pub invariant-loop-entry : goal.invariant-loop-entry
invariant-loop-entry l = IsCanon (take l.entry-index l.list) l.ranks.items l.seen.items
