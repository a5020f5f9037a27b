use Rattle.cf_comb.proofs.GatherLaws.{IsGathered}
use Rattle.cf_comb.proofs.merging.gathered.Given as goal

abbrev pub invariant-loop-i : goal.invariant-loop-i
invariant-loop-i l = IsGathered l.terms l.i l.sum.items l.pair l.count
