use Rattle.cf_circuit.proofs.words.joined.Given as goal

abbrev pub ghosts-joined_uncounted : goal.ghosts-joined_uncounted
ghosts-joined_uncounted a = record { name = a.blank.name; parts = a.blank.parts }
