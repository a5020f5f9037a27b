use Rattle.cf_kron.proofs.entry.Given as goal

abbrev pub ghosts-value_there : goal.ghosts-value_there
ghosts-value_there a = record { name = a.blank.name; parts = a.blank.parts }
