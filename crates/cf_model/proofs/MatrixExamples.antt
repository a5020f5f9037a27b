use Rattle.std.proofs.Common.{◌≡◌, ◌^◌, ◌-◌, pos, negsuc, ◌*ℤ◌, true, false, [], ◌∷◌, map, Some, None, refl}
use Rattle.std.specs.Prelude.{neg_ℤ}
use Rattle.cf_model.specs.Assignments.{number_of, all_bits}
use Rattle.cf_model.specs.Matrices.{Matrix, entry, int_sum, absolute_sum, bounded_sum, products, product_entry, product, transpose, identity, unit, common_ones, walsh, kronecker}

-- the matrix of level 1 with the rows 0 1 and 2 3
abbrev numbers : Matrix
numbers bits = pos (number_of bits)

entry_row_1 : entry numbers (true ∷ []) (false ∷ []) ≡ pos 2
entry_row_1 = refl

entry_row_0 : entry numbers (false ∷ []) (true ∷ []) ≡ pos 1
entry_row_0 = refl

int_sum_of_three : int_sum (pos 3 ∷ negsuc 4 ∷ pos 1 ∷ []) ≡ negsuc 0
int_sum_of_three = refl

int_sum_of_none : int_sum [] ≡ pos 0
int_sum_of_none = refl

absolute_sum_of_two : absolute_sum (pos 3 ∷ negsuc 4 ∷ []) ≡ 8
absolute_sum_of_two = refl

absolute_sum_of_none : absolute_sum [] ≡ 0
absolute_sum_of_none = refl

bounded_sum_of_two : bounded_sum (pos 3 ∷ negsuc 4 ∷ []) ≡ Some (negsuc 1)
bounded_sum_of_two = refl

-- the sum is 0, and the absolute values add to 2^127
bounded_sum_too_large : bounded_sum (pos (2 ^ 126) ∷ neg_ℤ (pos (2 ^ 126)) ∷ []) ≡ None
bounded_sum_too_large = refl

-- -2^127 fits, and is no bounded sum
bounded_sum_of_least : bounded_sum (negsuc (2 ^ 127 - 1) ∷ []) ≡ None
bounded_sum_of_least = refl

-- the absolute values may add to 2^127-1
bounded_sum_of_greatest : bounded_sum (pos (2 ^ 126) ∷ pos (2 ^ 126 - 1) ∷ []) ≡ Some (pos (2 ^ 127 - 1))
bounded_sum_of_greatest = refl

bounded_sum_of_lowest : bounded_sum (neg_ℤ (pos (2 ^ 127 - 1)) ∷ []) ≡ Some (neg_ℤ (pos (2 ^ 127 - 1)))
bounded_sum_of_lowest = refl

products_of_rows : products 1 numbers numbers (true ∷ []) (true ∷ []) ≡ pos 2 ∷ pos 9 ∷ []
unfolding all_bits
products_of_rows = refl

products_of_units : products 1 (unit 0 1) (unit 1 0) (false ∷ []) (false ∷ []) ≡ pos 0 ∷ pos 1 ∷ []
unfolding all_bits
products_of_units = refl

product_entry_11 : product_entry 1 numbers numbers (true ∷ []) (true ∷ []) ≡ Some (pos 11)
unfolding all_bits
product_entry_11 = refl

product_entry_00 : product_entry 1 numbers numbers (false ∷ []) (false ∷ []) ≡ Some (pos 2)
unfolding all_bits
product_entry_00 = refl

-- a product of matrices isn't the product of their entries: that would be 0 1 4 9
product_of_numbers : map (product 1 numbers numbers) (all_bits 2) ≡ Some (pos 2) ∷ Some (pos 3) ∷ Some (pos 6) ∷ Some (pos 11) ∷ []
unfolding all_bits
product_of_numbers = refl

-- column 1 of the first matrix comes into column 0; the other way round row 0 of it would come into row 1
product_with_unit : map (product 1 numbers (unit 1 0)) (all_bits 2) ≡ Some (pos 1) ∷ Some (pos 0) ∷ Some (pos 3) ∷ Some (pos 0) ∷ []
unfolding all_bits
product_with_unit = refl

-- Level 2: an index has two bits. Column 01 of the first matrix comes into column 10: what stands at row 00 and column 10,
-- the assignment 0100, is the first matrix at row 00 and column 01, the assignment 0001.
product_at_0100 : product 2 numbers (unit 1 2) (false ∷ true ∷ false ∷ false ∷ []) ≡ Some (pos 1)
unfolding all_bits
product_at_0100 = refl

product_at_1110 : product 2 numbers (unit 1 2) (true ∷ true ∷ true ∷ false ∷ []) ≡ Some (pos 11)
unfolding all_bits
product_at_1110 = refl

-- row 01 and column 00, and not the halves 00 and 10
product_at_0010 : product 2 numbers (unit 1 2) (false ∷ false ∷ true ∷ false ∷ []) ≡ Some (pos 0)
unfolding all_bits
product_at_0010 = refl

walsh_squared : map (product 1 walsh walsh) (all_bits 2) ≡ map (λ bits. Some (pos 2 *ℤ identity bits)) (all_bits 2)
unfolding all_bits
walsh_squared = refl

constants_overflow : map (product 1 (λ bits. pos (2 ^ 63)) (λ bits. neg_ℤ (pos (2 ^ 63)))) (all_bits 2) ≡ None ∷ None ∷ None ∷ None ∷ []
unfolding all_bits
constants_overflow = refl

transpose_of_numbers : map (transpose numbers) (all_bits 2) ≡ pos 0 ∷ pos 2 ∷ pos 1 ∷ pos 3 ∷ []
unfolding all_bits
transpose_of_numbers = refl

transpose_of_unit : map (transpose (unit 0 1)) (all_bits 2) ≡ map (unit 1 0) (all_bits 2)
unfolding all_bits
transpose_of_unit = refl

-- row 10 and column 00 for row 00 and column 10: the entry at 0100, and not at 0010, the halves exchanged
transpose_at_1000 : transpose numbers (true ∷ false ∷ false ∷ false ∷ []) ≡ pos 4
transpose_at_1000 = refl

-- each row bit changes places with its column bit: 1101, and neither 1011, the halves exchanged, nor 0111, read backwards
transpose_at_1110 : transpose numbers (true ∷ true ∷ true ∷ false ∷ []) ≡ pos 13
transpose_at_1110 = refl

identity_of_level_1 : map identity (all_bits 2) ≡ pos 1 ∷ pos 0 ∷ pos 0 ∷ pos 1 ∷ []
unfolding all_bits
identity_of_level_1 = refl

-- row 11 and column 11 are the assignment 1111; its halves are equal too at 0101, row 00 and column 11
identity_at_1111 : identity (true ∷ true ∷ true ∷ true ∷ []) ≡ pos 1
identity_at_1111 = refl

identity_at_0101 : identity (false ∷ true ∷ false ∷ true ∷ []) ≡ pos 0
identity_at_0101 = refl

-- row 01 and column 01, the halves 00 and 11
identity_at_0011 : identity (false ∷ false ∷ true ∷ true ∷ []) ≡ pos 1
identity_at_0011 = refl

unit_of_level_1 : map (unit 0 1) (all_bits 2) ≡ pos 0 ∷ pos 1 ∷ pos 0 ∷ pos 0 ∷ []
unfolding all_bits
unit_of_level_1 = refl

-- row 01 and column 00, and neither row 00 and column 01 nor the halves 00 and 10
unit_at_0010 : unit 1 0 (false ∷ false ∷ true ∷ false ∷ []) ≡ pos 1
unit_at_0010 = refl

unit_at_0001 : unit 1 0 (false ∷ false ∷ false ∷ true ∷ []) ≡ pos 0
unit_at_0001 = refl

unit_out_of_range : map (unit 2 0) (all_bits 2) ≡ pos 0 ∷ pos 0 ∷ pos 0 ∷ pos 0 ∷ []
unfolding all_bits
unit_out_of_range = refl

common_ones_of_two : common_ones (true ∷ true ∷ false ∷ []) (true ∷ true ∷ true ∷ []) ≡ 2
common_ones_of_two = refl

common_ones_of_none : common_ones (true ∷ []) (false ∷ []) ≡ 0
common_ones_of_none = refl

walsh_of_level_1 : map walsh (all_bits 2) ≡ pos 1 ∷ pos 1 ∷ pos 1 ∷ negsuc 0 ∷ []
unfolding all_bits
walsh_of_level_1 = refl

-- two common ones
walsh_at_1111 : walsh (true ∷ true ∷ true ∷ true ∷ []) ≡ pos 1
walsh_at_1111 = refl

-- row 10 and column 10 have a common one, the halves 11 and 00 have none
walsh_at_1100 : walsh (true ∷ true ∷ false ∷ false ∷ []) ≡ negsuc 0
walsh_at_1100 = refl

-- row 00 and column 11 have none, the halves 01 and 01 have one
walsh_at_0101 : walsh (false ∷ true ∷ false ∷ true ∷ []) ≡ pos 1
walsh_at_0101 = refl

-- the Walsh matrix of level 2 is the Kronecker product of those of level 1
kronecker_of_walsh : map (kronecker walsh walsh) (all_bits 4) ≡ map (λ bits. Some (walsh bits)) (all_bits 4)
unfolding all_bits
kronecker_of_walsh = refl

kronecker_at_0110 : kronecker numbers numbers (false ∷ true ∷ true ∷ false ∷ []) ≡ Some (pos 2)
kronecker_at_0110 = refl

-- the first matrix at 11 times the second at 01, row 0 and column 1
kronecker_at_1101 : kronecker numbers (unit 0 1) (true ∷ true ∷ false ∷ true ∷ []) ≡ Some (pos 3)
kronecker_at_1101 = refl

kronecker_too_large : kronecker (λ bits. pos (2 ^ 64)) (λ bits. pos (2 ^ 63)) (false ∷ true ∷ true ∷ false ∷ []) ≡ None
kronecker_too_large = refl
