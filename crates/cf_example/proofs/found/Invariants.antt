use Rattle.cf_example.proofs.found.Given as goal

abbrev pub ghosts-compare_uncounted : goal.ghosts-compare_uncounted
ghosts-compare_uncounted a = record { name = a.blank.name; parts = a.blank.parts }
