use Rattle.cf_pkg.proofs.walk.+exit_of.Given as goal

abbrev pub decreases-exit_of : goal.decreases-exit_of
decreases-exit_of g l = l.g.level
