use Rattle.std.proofs.Common.{◌≡◌, ℕ, zero, suc, ◌^◌, ℤ, pos, true, [], ◌∷◌, Some, refl, arith, rules}
use Rattle.std.specs.Prelude.{slice_get}
use Rattle.cf_model.specs.FlatFunctions.{value_at}
use Rattle.cf_model.specs.Diagrams.{pattern}
use Rattle.cf_model.specs.Functions.{IsFunction, function_of}
use Rattle.cf_model.proofs.DiagramExamples.{four, dont_care, fork}
use Rattle.cf_model.proofs.FlatFunctionExamples.{above_does_not}

-- 7 where both variables are 1, and 5 elsewhere
values_of_conjunction : function_of four 1 2 (pos 5 ∷ pos 7 ∷ []) ≡ record { level = 1; values = pos 5 ∷ pos 5 ∷ pos 5 ∷ pos 7 ∷ [] }
unfolding pattern
values_of_conjunction = refl

-- the same grouping with other values
values_of_negation : function_of four 1 2 (pos 1 ∷ pos 0 ∷ []) ≡ record { level = 1; values = pos 1 ∷ pos 1 ∷ pos 1 ∷ pos 0 ∷ [] }
unfolding pattern
values_of_negation = refl

values_of_constant : function_of four 0 dont_care (pos 9 ∷ []) ≡ record { level = 0; values = pos 9 ∷ pos 9 ∷ [] }
unfolding pattern
values_of_constant = refl

value_at_11 : value_at (function_of four 1 2 (pos 5 ∷ pos 7 ∷ [])) (true ∷ true ∷ []) ≡ Some (pos 7)
unfolding pattern
value_at_11 = refl

constant_is_function : IsFunction four 0 dont_care (pos 9 ∷ [])
constant_is_function = record { exists = omega arith; valued = refl; differ = λ i j x hi hj. same_place i j hi hj; fit = search rules }
  where
    same_place : (i j : ℕ) {x : ℤ} → slice_get (pos 9 ∷ []) i ≡ Some x → slice_get (pos 9 ∷ []) j ≡ Some x → i ≡ j
    same_place zero zero hi hj = refl
    same_place zero (suc j) hi hj = cc
    same_place (suc i) j hi hj = cc

-- two exits with one value: the constant 9 would have two groupings
equal_values : IsFunction four 0 fork (pos 9 ∷ pos 9 ∷ []) → ⊥
equal_values f = omega (arith, f.differ 0 1 (pos 9) refl refl)

-- a grouping that isn't there: level 0 has two
no_grouping : IsFunction four 0 2 (pos 5 ∷ pos 7 ∷ []) → ⊥
no_grouping f = omega (arith, f.exists)

value_too_large : IsFunction four 0 dont_care (pos (2 ^ 127) ∷ []) → ⊥
value_too_large f = above_does_not (f.fit 0 (pos 0) (omega arith))

value_missing : IsFunction four 0 fork (pos 9 ∷ []) → ⊥
value_missing f = omega (arith, f.valued)
