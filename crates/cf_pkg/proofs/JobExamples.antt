-- Jobs on worked functions: which are in order, and the values that they have.
use Rattle.std.proofs.Common.{◌≡◌, ℕ, pos, negsuc, true, false, [], ◌∷◌, map, Some, refl, arith}
use Rattle.cf_model.specs.Assignments.{all_bits}
use Rattle.cf_model.specs.Diagrams.{pattern}
use Rattle.cf_model.specs.Terms.{term, terms}
use Rattle.cf_model.specs.declared.terms.Word2.TheVariants.{Minus}
use Rattle.cf_model.specs.declared.terms.Term.{X, Y, Z, Fold, Ite}
use Rattle.cf_model.proofs.DiagramExamples.{two_a_level}
use Rattle.cf_pkg.specs.declared.Func.{Func}
use Rattle.cf_pkg.specs.declared.jobs.Job.TheVariants.{Const, Var, Map, Apply, Ternary, Restrict, Kron, Matmul, Transpose, Id, Walsh, Unit as UnitAt}
use Rattle.cf_pkg.specs.Memos.{no_job}
use Rattle.cf_pkg.specs.Packages.{Package, package_of, OwnsFunction}
use Rattle.cf_pkg.specs.Jobs.{apply_value, ternary_value, job_level, job_value, AreLevel, IsInOrder}

-- a package with two functions of each level
abbrev two_each : Package
two_each = package_of (record { levels = two_a_level; tuples = []; products = []; triples = [] }) ((pos 3 ∷ []) ∷ (pos 0 ∷ pos 1 ∷ []) ∷ []) no_job

-- 3 everywhere
abbrev three : ℕ → Func
three level = record { head = record { level = level; at = 0 }; vals = record { at = 0 } }

-- the first bit; on level 1 the matrix with the rows 0 0 and 1 1
abbrev first_bit : ℕ → Func
first_bit level = record { head = record { level = level; at = 1 }; vals = record { at = 1 } }

-- a function that isn't the package's: level 1 has no third grouping
abbrev stranger : Func
stranger = record { head = record { level = 1; at = 2 }; vals = record { at = 0 } }

three_of_1 : OwnsFunction two_each (three 1)
three_of_1 = record { head = omega arith; list = omega arith; valued = refl }

bit_of_1 : OwnsFunction two_each (first_bit 1)
bit_of_1 = record { head = omega arith; list = omega arith; valued = refl }

bit_of_3 : OwnsFunction two_each (first_bit 3)
bit_of_3 = record { head = omega arith; list = omega arith; valued = refl }

three_of_6 : OwnsFunction two_each (three 6)
three_of_6 = record { head = omega arith; list = omega arith; valued = refl }

bit_of_6 : OwnsFunction two_each (first_bit 6)
bit_of_6 = record { head = omega arith; list = omega arith; valued = refl }

stranger_is_no_function : OwnsFunction two_each stranger → ⊥
stranger_is_no_function o = omega (arith, o.head)

-- levels of constants and variables end at 7
const_of_7 : IsInOrder two_each (Const 7 (pos 3))
const_of_7 = omega arith

const_of_8 : IsInOrder two_each (Const 8 (pos 3)) → ⊥
const_of_8 h = omega (arith, h)

var_of_7 : IsInOrder two_each (Var 7 127)
var_of_7 = (omega arith, omega arith)

var_of_8 : IsInOrder two_each (Var 8 0) → ⊥
var_of_8 h = omega (arith, h.0)

-- level 3 has the positions 0 to 7
last_var : IsInOrder two_each (Var 3 7)
last_var = (omega arith, omega arith)

var_past : IsInOrder two_each (Var 3 8) → ⊥
var_past h = omega (arith, h.1)

last_restriction : IsInOrder two_each (Restrict (first_bit 3) 7 true)
last_restriction = (bit_of_3, omega arith)

restriction_past : IsInOrder two_each (Restrict (first_bit 3) 8 true) → ⊥
restriction_past h = omega (arith, h.1)

-- functions are the package's
map_of_stranger : (tree : _) → IsInOrder two_each (Map tree stranger) → ⊥
map_of_stranger tree h = stranger_is_no_function h

restriction_of_stranger : IsInOrder two_each (Restrict stranger 0 true) → ⊥
restriction_of_stranger h = stranger_is_no_function h.0

transpose_of_stranger : IsInOrder two_each (Transpose stranger) → ⊥
transpose_of_stranger h = stranger_is_no_function h.0

-- and of one level
levels_differ : AreLevel two_each (three 1) (three 6) → ⊥
levels_differ h = omega (arith, h.level)

one_level : AreLevel two_each (three 1) (first_bit 1)
one_level = record { first = three_of_1; second = bit_of_1; level = refl }

apply_of_levels : (tree : _) → IsInOrder two_each (Apply tree (three 1) (three 6)) → ⊥
apply_of_levels tree h = levels_differ h

apply_of_stranger : (tree : _) → IsInOrder two_each (Apply tree (three 1) stranger) → ⊥
apply_of_stranger tree h = stranger_is_no_function h.second

ternary_of_second : (tree : _) → IsInOrder two_each (Ternary tree (three 1) (three 6) (first_bit 1)) → ⊥
ternary_of_second tree h = levels_differ h.0

ternary_of_third : (tree : _) → IsInOrder two_each (Ternary tree (three 1) (first_bit 1) (three 6)) → ⊥
ternary_of_third tree h = levels_differ h.1

kron_of_levels : IsInOrder two_each (Kron (three 1) (three 6)) → ⊥
kron_of_levels h = levels_differ h.0

matmul_of_levels : IsInOrder two_each (Matmul (three 1) (three 6)) → ⊥
matmul_of_levels h = levels_differ h.0

-- a Kronecker product is one level higher
kron_of_6 : IsInOrder two_each (Kron (three 6) (first_bit 6))
kron_of_6 = (record { first = three_of_6; second = bit_of_6; level = refl }, omega arith)

kron_of_7 : IsInOrder two_each (Kron (three 7) (first_bit 7)) → ⊥
kron_of_7 h = omega (arith, h.1)

level_of_kron : job_level (Kron (three 6) (first_bit 6)) ≡ 7
level_of_kron = refl

-- matrices have level 1 or higher
matmul_of_1 : IsInOrder two_each (Matmul (three 1) (first_bit 1))
matmul_of_1 = (one_level, omega arith)

matmul_of_0 : IsInOrder two_each (Matmul (three 0) (first_bit 0)) → ⊥
matmul_of_0 h = omega (arith, h.1)

transpose_of_1 : IsInOrder two_each (Transpose (first_bit 1))
transpose_of_1 = (bit_of_1, omega arith)

transpose_of_0 : IsInOrder two_each (Transpose (first_bit 0)) → ⊥
transpose_of_0 h = omega (arith, h.1)

-- and those without an argument level 7 or lower
ids : IsInOrder two_each (Id 1) × IsInOrder two_each (Id 7)
ids = ((omega arith, omega arith), (omega arith, omega arith))

id_of_0 : IsInOrder two_each (Id 0) → ⊥
id_of_0 h = omega (arith, h.0)

id_of_8 : IsInOrder two_each (Id 8) → ⊥
id_of_8 h = omega (arith, h.1)

walshes : IsInOrder two_each (Walsh 1) × IsInOrder two_each (Walsh 7)
walshes = ((omega arith, omega arith), (omega arith, omega arith))

walsh_of_0 : IsInOrder two_each (Walsh 0) → ⊥
walsh_of_0 h = omega (arith, h.0)

walsh_of_8 : IsInOrder two_each (Walsh 8) → ⊥
walsh_of_8 h = omega (arith, h.1)

unit_of_0 : IsInOrder two_each (UnitAt 0 0 0) → ⊥
unit_of_0 h = omega (arith, h.0.0)

unit_of_8 : IsInOrder two_each (UnitAt 8 0 0) → ⊥
unit_of_8 h = omega (arith, h.0.1)

-- a matrix of level 3 has the rows and the columns 0 to 15
last_unit : IsInOrder two_each (UnitAt 3 15 15)
last_unit = ((omega arith, omega arith), omega arith, omega arith)

row_past : IsInOrder two_each (UnitAt 3 16 0) → ⊥
row_past h = omega (arith, h.1)

column_past : IsInOrder two_each (UnitAt 3 0 16) → ⊥
column_past h = omega (arith, h.2)

-- The value of each kind of job: arguments that change places give other values.
constant_values : map (job_value two_each (Const 1 (pos 3))) (all_bits 2) ≡ Some (pos 3) ∷ Some (pos 3) ∷ Some (pos 3) ∷ Some (pos 3) ∷ []
unfolding all_bits
constant_values = refl

variable_values : map (job_value two_each (Var 1 1)) (all_bits 2) ≡ Some (pos 0) ∷ Some (pos 1) ∷ Some (pos 0) ∷ Some (pos 1) ∷ []
unfolding all_bits
variable_values = refl

-- 3 less the first bit
apply_values : map (apply_value two_each (Fold Minus (X ∷ Y ∷ [])) (three 1) (first_bit 1)) (all_bits 2) ≡ Some (pos 3) ∷ Some (pos 3) ∷ Some (pos 2) ∷ Some (pos 2) ∷ []
unfolding term terms Rattle.cf_model.specs.declared.terms.Term.TheBlock.hidden-the_row-Term-1 denote.Hole.Carrier.hidden all_bits pattern
apply_values = refl

-- 3 where the first bit is 1, else the first bit
ternary_values : map (ternary_value two_each (Ite X Y Z) (first_bit 1) (three 1) (first_bit 1)) (all_bits 2) ≡ Some (pos 0) ∷ Some (pos 0) ∷ Some (pos 3) ∷ Some (pos 3) ∷ []
unfolding term terms Rattle.cf_model.specs.declared.terms.Term.TheBlock.hidden-the_row-Term-1 denote.Hole.Carrier.hidden all_bits pattern
ternary_values = refl

restriction_values : map (job_value two_each (Restrict (first_bit 1) 0 true)) (all_bits 2) ≡ Some (pos 1) ∷ Some (pos 1) ∷ Some (pos 1) ∷ Some (pos 1) ∷ []
unfolding all_bits pattern
restriction_values = refl

-- 3 times the first bit of the second half
kron_values : map (job_value two_each (Kron (three 1) (first_bit 1))) ((false ∷ false ∷ true ∷ false ∷ []) ∷ (true ∷ false ∷ false ∷ false ∷ []) ∷ []) ≡ Some (pos 3) ∷ Some (pos 0) ∷ []
unfolding pattern
kron_values = refl

-- the other way round the rows would be 0 0 and 6 6
matmul_values : map (job_value two_each (Matmul (three 1) (first_bit 1))) (all_bits 2) ≡ Some (pos 3) ∷ Some (pos 3) ∷ Some (pos 3) ∷ Some (pos 3) ∷ []
unfolding all_bits pattern
matmul_values = refl

-- on level 2 an entry adds four products
matmul_of_2 : job_value two_each (Matmul (three 2) (three 2)) (false ∷ false ∷ false ∷ false ∷ []) ≡ Some (pos 36)
unfolding all_bits pattern
matmul_of_2 = refl

transpose_values : map (job_value two_each (Transpose (first_bit 1))) (all_bits 2) ≡ Some (pos 0) ∷ Some (pos 1) ∷ Some (pos 0) ∷ Some (pos 1) ∷ []
unfolding all_bits pattern
transpose_values = refl

id_values : map (job_value two_each (Id 1)) (all_bits 2) ≡ Some (pos 1) ∷ Some (pos 0) ∷ Some (pos 0) ∷ Some (pos 1) ∷ []
unfolding all_bits
id_values = refl

walsh_values : map (job_value two_each (Walsh 1)) (all_bits 2) ≡ Some (pos 1) ∷ Some (pos 1) ∷ Some (pos 1) ∷ Some (negsuc 0) ∷ []
unfolding all_bits
walsh_values = refl

-- row 0 and column 1
unit_values : map (job_value two_each (UnitAt 1 0 1)) (all_bits 2) ≡ Some (pos 0) ∷ Some (pos 1) ∷ Some (pos 0) ∷ Some (pos 0) ∷ []
unfolding all_bits
unit_values = refl
