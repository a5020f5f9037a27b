use Rattle.std.proofs.Common.{◌≡◌, map, drop}
use Rattle.cf_model.specs.Terms.{term, folded_on}
use Rattle.cf_model.proofs.terms.Term.+eval.Given as goal

abbrev pub decreases-eval : goal.decreases-eval
decreases-eval l = goal.size-eval l

abbrev pub invariant-loop-t : goal.invariant-loop-t
invariant-loop-t l = folded_on l.word l.acc (map (λ t. term t l.x l.y l.z) (drop l.t-index l.rest)) ≡ term l.fn.self l.x l.y l.z
