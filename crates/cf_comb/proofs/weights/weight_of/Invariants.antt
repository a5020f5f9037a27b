use Rattle.std.proofs.Common.{◌≡◌, ◌<◌, ◌^◌, take}
use Rattle.cf_comb.proofs.Weighing.{value, size}
use Rattle.cf_comb.proofs.weights.weight_of.Given as goal

abbrev pub invariant-loop-i : goal.invariant-loop-i
invariant-loop-i l = record {
  weight_is : l.weight ≡ value l.v l.w (take l.i l.sum);
  size_is : l.size ≡ size l.v l.w (take l.i l.sum);
  small : l.size < 2 ^ 127;
}
