use Rattle.std.proofs.Common.{◌≡◌, true, false, [], ◌∷◌, refl}
use Rattle.cf_model.specs.Assignments.{all_bits}
use Rattle.cf_restrict.specs.Restrictions.{restricted_exits, returned_exits}

-- four exits, with the first or the second bit set
first_bit : restricted_exits 1 (0 ∷ 1 ∷ 2 ∷ 3 ∷ []) 0 true ≡ 2 ∷ 3 ∷ 2 ∷ 3 ∷ []
unfolding all_bits
first_bit = refl

second_bit : restricted_exits 1 (0 ∷ 1 ∷ 2 ∷ 3 ∷ []) 1 false ≡ 0 ∷ 0 ∷ 2 ∷ 2 ∷ []
unfolding all_bits
second_bit = refl

-- a bit that doesn't matter
other_bit : restricted_exits 1 (0 ∷ 0 ∷ 1 ∷ 1 ∷ []) 1 true ≡ 0 ∷ 0 ∷ 1 ∷ 1 ∷ []
unfolding all_bits
other_bit = refl

-- exits that return
returns : returned_exits (5 ∷ 3 ∷ []) (1 ∷ 0 ∷ 1 ∷ []) ≡ 3 ∷ 5 ∷ 3 ∷ []
returns = refl
