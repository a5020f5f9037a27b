use Rattle.std.proofs.Common.{◌≡◌, take}
use Rattle.cf_model.proofs.terms.Term.+copy.Given as goal

abbrev pub decreases-copy : goal.decreases-copy
decreases-copy l = goal.size-copy l

abbrev pub invariant-loop-t : goal.invariant-loop-t
invariant-loop-t l = l.all.items ≡ take l.t-index l.t-items
