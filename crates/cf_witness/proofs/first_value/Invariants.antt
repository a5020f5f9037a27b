use Rattle.cf_witness.proofs.first_value.Given as goal

abbrev pub ghosts-first_exit_uncounted : goal.ghosts-first_exit_uncounted
ghosts-first_exit_uncounted a = record { name = a.blank.name; parts = a.blank.parts }
