use Rattle.std.proofs.Common.{◌≡◌, map, take, Some}
use Rattle.cf_model.specs.PairSums.{weight}
use Rattle.cf_matmul.specs.Symbolic.{sums_of}
use Rattle.cf_matmul.proofs.weights.weigh_all.Given as goal

abbrev pub invariant-loop-i : goal.invariant-loop-i
invariant-loop-i l = map Some l.values.items ≡ map (weight l.left l.right) (take l.i (sums_of l.book l.sums))
