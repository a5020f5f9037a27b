use Rattle.cf_witness.proofs.separating.separate.Given as goal

abbrev pub ghosts-agreement : goal.ghosts-agreement
ghosts-agreement a = record { name = a.blank.name; parts = a.blank.parts }

abbrev pub ghosts-value_there : goal.ghosts-value_there
ghosts-value_there a = record { name = a.blank.name; parts = a.blank.parts }
