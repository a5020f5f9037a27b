use Rattle.cf_kron.proofs.products.product.Given as goal

abbrev pub ghosts-least_of_both : goal.ghosts-least_of_both
ghosts-least_of_both a = record { name = a.blank.name; parts = a.blank.parts }
