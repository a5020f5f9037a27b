use Rattle.std.proofs.Common.{◌≡◌, true, false, [], ◌∷◌, pos, Some, refl}
use Rattle.cf_model.specs.Assignments.{number_of}
use Rattle.cf_model.specs.declared.terms.Word2.TheVariants.{Plus}
use Rattle.cf_model.specs.Quantified.{settings, over_all, some_setting, every_setting, composed}

-- both settings of the first of two bits
both_settings : settings (0 ∷ []) (true ∷ true ∷ []) ≡ (false ∷ true ∷ []) ∷ (true ∷ true ∷ []) ∷ []
both_settings = refl

-- a value that is everywhere 3, summed over a variable that stands twice
doubled_twice : over_all Plus (λ s. Some (pos 3)) (0 ∷ 0 ∷ []) (false ∷ []) ≡ Some (pos 12)
doubled_twice = refl

-- a value that is 0 at 00 alone: nonzero for some setting of the first bit, and not for each
nonzero_for_some : some_setting (λ s. pos (number_of s)) (0 ∷ []) (false ∷ false ∷ []) ≡ pos 1
nonzero_for_some = refl

zero_for_one : every_setting (λ s. pos (number_of s)) (0 ∷ []) (false ∷ false ∷ []) ≡ pos 0
zero_for_one = refl

-- a nonzero value sets the first of two bits
composed_with_three : composed (λ s. pos (number_of s)) 0 (λ s. pos 3) (false ∷ true ∷ []) ≡ pos 3
composed_with_three = refl
