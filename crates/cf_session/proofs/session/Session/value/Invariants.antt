use Rattle.cf_session.proofs.session.Session.value.Given as goal

abbrev pub ghosts-value_there : goal.ghosts-value_there
ghosts-value_there a = record { name = a.blank.name; parts = a.blank.parts }
