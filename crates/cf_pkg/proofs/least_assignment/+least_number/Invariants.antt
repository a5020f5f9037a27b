use Rattle.cf_pkg.proofs.least_assignment.+least_number.Given as goal

abbrev pub decreases-least_number : goal.decreases-least_number
decreases-least_number g l = l.g.level
