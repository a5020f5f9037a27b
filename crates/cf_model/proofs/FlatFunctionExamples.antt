use Rattle.std.proofs.Common.{List, Bool, length, ◌≡◌, ◌^◌, ◌-◌, pos, negsuc, true, false, [], ◌∷◌, Some, None, refl, arith, rules}
use Rattle.std.specs.Prelude.{length, if◌then◌else◌, All}
use Rattle.std.specs.Ordering.{int_eq}
use Rattle.std.proofs.lemmas.List.Elements.{All-map}
use Rattle.cf_model.proofs.FlatFunctionLaws.{tabulated-full, tabulated-value}
use Rattle.cf_model.specs.Assignments.{number_of, bit_at, all_bits}
use Rattle.cf_model.specs.Values.{Fits, fits, fitting, and_then}
use Rattle.cf_model.specs.FlatFunctions.{points, IsAssignment, FlatFunction, IsFlatFunction, value_at, tabulated, variable, IsLeast, first_passing}

-- the edges of the range, and the numbers past them
fits_greatest : fits (pos (2 ^ 127 - 1)) ≡ true
fits_greatest = refl

fits_not_above : fits (pos (2 ^ 127)) ≡ false
fits_not_above = refl

fits_least : fits (negsuc (2 ^ 127 - 1)) ≡ true
fits_least = refl

fits_not_below : fits (negsuc (2 ^ 127)) ≡ false
fits_not_below = refl

greatest_fits : Fits (pos (2 ^ 127 - 1))
greatest_fits = search rules

pub above_does_not : Fits (pos (2 ^ 127)) → ⊥
above_does_not h = search rules

below_does_not : Fits (negsuc (2 ^ 127)) → ⊥
below_does_not h = search rules

fitting_7 : fitting (pos 7) ≡ Some (pos 7)
fitting_7 = refl

fitting_too_large : fitting (pos (2 ^ 127)) ≡ None
fitting_too_large = refl

and_then_some : and_then (Some (pos 3)) fitting ≡ Some (pos 3)
and_then_some = refl

and_then_none : and_then None fitting ≡ None
and_then_none = refl

points_0 : points 0 ≡ 2
points_0 = refl

points_3 : points 3 ≡ 256
points_3 = refl

-- a number, however large; no list of so many entries is made
points_7 : points 7 ≡ 2 ^ 128
points_7 = refl

assignment_of_level_1 : IsAssignment 1 (false ∷ true ∷ [])
assignment_of_level_1 = refl

-- three bits are an assignment of no level; of level 1 they are none
no_assignment : IsAssignment 1 (false ∷ true ∷ false ∷ []) → ⊥
no_assignment h = omega (arith, h)

-- the second variable of level 1, and a function with the value 5 at 10 alone
abbrev second_variable : FlatFunction
second_variable = record { level = 1; values = pos 0 ∷ pos 1 ∷ pos 0 ∷ pos 1 ∷ [] }

abbrev five_at_10 : FlatFunction
five_at_10 = record { level = 1; values = pos 7 ∷ pos 7 ∷ pos 5 ∷ pos 7 ∷ [] }

five_at_10_is_flat : IsFlatFunction five_at_10
five_at_10_is_flat = record { level_in = omega arith; full = refl; fit = search rules }

-- Levels end at 7: at level 8 this list is full, its values fit, and the level alone is too high.
abbrev zero_of_level_8 : FlatFunction
zero_of_level_8 = tabulated 8 (λ bits. pos 0)

zero_fits : Fits (pos 0)
zero_fits = search rules

full_at_level_8 : (length zero_of_level_8.values ≡ points 8) × All Fits zero_of_level_8.values
full_at_level_8 = (tabulated-full 8 (λ bits. pos 0), All-map Fits (λ bits. pos 0) (all_bits (2 ^ 8)) (λ k d inside. zero_fits))

too_high : IsFlatFunction zero_of_level_8 → ⊥
too_high h = omega (arith, h.level_in)

highest_is_flat : IsFlatFunction (tabulated 7 (λ bits. pos 0))
highest_is_flat = record {
  level_in = omega arith;
  full = tabulated-full 7 (λ bits. pos 0);
  fit = All-map Fits (λ bits. pos 0) (all_bits (2 ^ 7)) (λ k d inside. zero_fits);
}

-- Values fit: one alone, past either edge, is too large.
too_large : IsFlatFunction (record { level = 0; values = pos 0 ∷ pos (2 ^ 127) ∷ [] }) → ⊥
too_large h = above_does_not (h.fit 1 (pos 0) (omega arith))

too_small : IsFlatFunction (record { level = 0; values = negsuc (2 ^ 127) ∷ pos 0 ∷ [] }) → ⊥
too_small h = below_does_not (h.fit 0 (pos 0) (omega arith))

edges_are_flat : IsFlatFunction (record { level = 0; values = pos (2 ^ 127 - 1) ∷ negsuc (2 ^ 127 - 1) ∷ [] })
edges_are_flat = record { level_in = omega arith; full = refl; fit = search rules }

-- level 1 has four values, and not two
too_short : IsFlatFunction (record { level = 1; values = pos 0 ∷ pos 1 ∷ [] }) → ⊥
too_short h = omega (arith, h.full)

value_at_10 : value_at five_at_10 (true ∷ false ∷ []) ≡ Some (pos 5)
value_at_10 = refl

value_at_01 : value_at second_variable (false ∷ true ∷ []) ≡ Some (pos 1)
value_at_01 = refl

tabulated_number : tabulated 1 (λ bits. pos (number_of bits)) ≡ record { level = 1; values = pos 0 ∷ pos 1 ∷ pos 2 ∷ pos 3 ∷ [] }
unfolding all_bits
tabulated_number = refl

tabulated_constant : tabulated 0 (λ bits. pos 9) ≡ record { level = 0; values = pos 9 ∷ pos 9 ∷ [] }
unfolding all_bits
tabulated_constant = refl

variable_1 : variable 1 1 ≡ second_variable
unfolding all_bits
variable_1 = refl

variable_0 : variable 1 0 ≡ record { level = 1; values = pos 0 ∷ pos 0 ∷ pos 1 ∷ pos 1 ∷ [] }
unfolding all_bits
variable_0 = refl

-- a flat function of level 7: its list of 2^128 values is never made
length_at_level_7 : length (variable 7 127).values ≡ 2 ^ 128
length_at_level_7 = tabulated-full 7 (λ bits. if bit_at bits 127 then pos 1 else pos 0)

value_at_level_7 : (bits : List Bool) → length bits ≡ 128 → value_at (variable 7 127) bits ≡ Some (if bit_at bits 127 then pos 1 else pos 0)
value_at_level_7 bits h = tabulated-value 7 (λ bits. if bit_at bits 127 then pos 1 else pos 0) bits h

first_5 : first_passing (int_eq (pos 5)) five_at_10 ≡ Some (true ∷ false ∷ [])
first_5 = refl

-- the least of several
first_1 : first_passing (int_eq (pos 1)) second_variable ≡ Some (false ∷ true ∷ [])
first_1 = refl

first_of_no_value : first_passing (int_eq (pos 8)) five_at_10 ≡ None
first_of_no_value = refl

least_true : IsLeast 0 (λ bits. bits ≡ true ∷ []) (true ∷ [])
least_true = record { assigns = refl; has = refl; none_below = λ other a below e. (let n : number_of other ≡ 1 = cc in omega (arith, n, below)) }

-- 11 has the value 7, and so has 00, which is smaller
not_least : IsLeast 1 (λ bits. value_at five_at_10 bits ≡ Some (pos 7)) (true ∷ true ∷ []) → ⊥
not_least h = h.none_below (false ∷ false ∷ []) refl (omega arith) refl
