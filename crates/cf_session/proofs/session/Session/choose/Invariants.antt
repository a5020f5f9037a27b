use Rattle.cf_session.proofs.session.Session.choose.Given as goal

abbrev pub ghosts-choose_uncounted : goal.ghosts-choose_uncounted
ghosts-choose_uncounted a = record { name = a.blank.name; parts = a.blank.parts }
