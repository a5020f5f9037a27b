use Rattle.cf_pkg.proofs.Sizing.{Counting}
use Rattle.cf_pkg.proofs.reached.reached.Given as goal

abbrev pub invariant-loop-level : goal.invariant-loop-level
invariant-loop-level l = Counting l.table l.heads l.level l.counts l.above.keys
