use Rattle.std.proofs.Common.{length}
use Rattle.cf_blif_cases.proofs.write_outcomes.Given as goal

abbrev pub decreases-loop-case : goal.decreases-loop-case
decreases-loop-case g l = length l.rest
