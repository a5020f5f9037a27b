use Rattle.std.proofs.Common.{◌+◌, ◌*◌}
use Rattle.cf_pkg.proofs.Pkg.+constant.Given as goal

abbrev pub decreases-known_constant : goal.decreases-known_constant
decreases-known_constant l = 2 * l.level + 1

abbrev pub decreases-constant_grouping : goal.decreases-constant_grouping
decreases-constant_grouping l = 2 * l.level
