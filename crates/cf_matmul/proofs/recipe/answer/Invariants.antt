use Rattle.cf_matmul.proofs.recipe.answer.Given as goal

abbrev pub ghosts-least_uncounted : goal.ghosts-least_uncounted
ghosts-least_uncounted a = record { name = a.blank.name; parts = a.blank.parts }
