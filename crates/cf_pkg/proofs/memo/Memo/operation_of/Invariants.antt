use Rattle.std.proofs.Common.{◌≡◌, ℕ, ◌<◌, get_or}
use Rattle.cf_model.specs.declared.terms.Term.{Term}
use Rattle.cf_pkg.proofs.memo.Memo.operation_of.Given as goal

abbrev pub invariant-loop-place : goal.invariant-loop-place
invariant-loop-place l = (i : ℕ) → i < l.place → get_or l.self-inside.trees.items i Term.X ≡ l.tree → ⊥
