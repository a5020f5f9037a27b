use Rattle.std.proofs.Common.{◌+◌, ◌-◌, length}
use Rattle.cf_comb.proofs.MergeLaws.{IsMerged}
use Rattle.cf_comb.proofs.merging.merged.Given as goal

abbrev pub invariant-loop-i : goal.invariant-loop-i
invariant-loop-i l = IsMerged l.a l.b l.i l.j l.sum.items

abbrev pub decreases-loop-i : goal.decreases-loop-i
decreases-loop-i l = length l.a + length l.b - (l.i + l.j)
