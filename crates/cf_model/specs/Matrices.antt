use Rattle.std.specs.Prelude.{ℕ, ℤ, pos, negsuc, ◌+ℤ◌, ◌*ℤ◌, ◌+◌, ◌-◌, ◌^◌, ◌%◌, ◌==◌, ◌&&◌, nat_le, unsigned_abs, Bool, List, [], ◌∷◌, map, sum_by, Option, Some, None, if◌then◌else◌}
use Rattle.cf_model.specs.Assignments.{number_of, first_half, second_half, weave, row_of, column_of, all_bits}
use Rattle.cf_model.specs.Values.{fitting}

-- A matrix of level 1 or higher is a function of assignments. An assignment is a row index and a column index, woven:
-- variable 2i is row bit i, variable 2i+1 is column bit i, most significant bits first.
abbrev pub Matrix : Type 0
Matrix = List Bool → ℤ

-- the entry in a row and a column
abbrev pub entry : Matrix → List Bool → List Bool → ℤ
entry m row col = m (weave row col)

-- the sum of whole numbers
abbrev pub int_sum : List ℤ → ℤ
int_sum [] = pos 0
int_sum (z ∷ zs) = z +ℤ int_sum zs

-- the sum of the absolute values
abbrev pub absolute_sum : List ℤ → ℕ
absolute_sum zs = sum_by unsigned_abs zs

-- The sum of numbers whose absolute values add to at most 2^127-1; any others have none.
abbrev pub bounded_sum : List ℤ → Option ℤ
bounded_sum zs = if nat_le (absolute_sum zs) (2 ^ 127 - 1) then Some (int_sum zs) else None

-- the products that the entry of a matrix product adds: one for each index t of `index_bits` bits
abbrev pub products : ℕ → Matrix → Matrix → List Bool → List Bool → List ℤ
products index_bits m n row col = map (λ t. entry m row t *ℤ entry n t col) (all_bits index_bits)

-- the entry of the matrix product, or none where the absolute products add to more than 2^127-1
abbrev pub product_entry : ℕ → Matrix → Matrix → List Bool → List Bool → Option ℤ
product_entry index_bits m n row col = bounded_sum (products index_bits m n row col)

-- The matrix product at an assignment. At level k an index has 2^(k-1) bits.
abbrev pub product : ℕ → Matrix → Matrix → List Bool → Option ℤ
product index_bits m n bits = product_entry index_bits m n (row_of bits) (column_of bits)

-- rows for columns
abbrev pub transpose : Matrix → Matrix
transpose m bits = entry m (column_of bits) (row_of bits)

-- 1 where row and column are equal, else 0
abbrev pub identity : Matrix
identity bits = if number_of (row_of bits) == number_of (column_of bits) then pos 1 else pos 0

-- 1 in the row and the column of these numbers, else 0
abbrev pub unit : ℕ → ℕ → Matrix
unit row col bits = if number_of (row_of bits) == row && number_of (column_of bits) == col then pos 1 else pos 0

-- at how many places both lists have a 1
abbrev pub common_ones : List Bool → List Bool → ℕ
common_ones [] col = 0
common_ones (r ∷ row) [] = 0
common_ones (r ∷ row) (c ∷ col) = (if r && c then 1 else 0) + common_ones row col

-- the Walsh matrix: -1 where row and column have an odd number of common ones, else 1
abbrev pub walsh : Matrix
walsh bits = if common_ones (row_of bits) (column_of bits) % 2 == 1 then negsuc 0 else pos 1

-- The Kronecker product at an assignment: the first matrix at its first half times the second one at its second half,
-- or none where that doesn't fit.
abbrev pub kronecker : Matrix → Matrix → List Bool → Option ℤ
kronecker m n bits = fitting (m (first_half bits) *ℤ n (second_half bits))
