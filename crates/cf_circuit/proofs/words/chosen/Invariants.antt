use Rattle.cf_circuit.proofs.words.chosen.Given as goal

abbrev pub ghosts-chosen_uncounted : goal.ghosts-chosen_uncounted
ghosts-chosen_uncounted a = record { name = a.blank.name; parts = a.blank.parts }
