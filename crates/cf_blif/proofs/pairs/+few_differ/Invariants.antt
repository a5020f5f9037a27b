use Rattle.std.proofs.Common.{length}
use Rattle.cf_blif.proofs.pairs.+few_differ.Given as goal

abbrev pub decreases-few_differ : goal.decreases-few_differ
decreases-few_differ l = length l.pairs.now
