use Rattle.std.proofs.Common.{◌+◌, ◌*◌}
use Rattle.cf_pkg.proofs.Pkg.+variable.Given as goal

abbrev pub decreases-known_variable : goal.decreases-known_variable
decreases-known_variable l = 2 * l.level + 1

abbrev pub decreases-variable_grouping : goal.decreases-variable_grouping
decreases-variable_grouping l = 2 * l.level
