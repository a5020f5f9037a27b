use Rattle.std.proofs.Common.{◌≡◌, ◌≤◌, max, drop}
use Rattle.cf_model.specs.Terms.{arity}
use Rattle.cf_model.proofs.TermLaws.{most_arity}
use Rattle.cf_model.proofs.terms.Term.+arity.Given as goal

abbrev pub decreases-arity : goal.decreases-arity
decreases-arity l = goal.size-arity l

abbrev pub invariant-loop-t : goal.invariant-loop-t
invariant-loop-t l = (1 ≤ l.most) × (max l.most (most_arity (drop l.t-index l.t-items)) ≡ arity l.fn.self)
