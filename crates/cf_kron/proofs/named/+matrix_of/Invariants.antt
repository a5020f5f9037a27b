use Rattle.cf_kron.proofs.named.+matrix_of.Given as goal

abbrev pub decreases-matrix_of : goal.decreases-matrix_of
decreases-matrix_of l = l.level
