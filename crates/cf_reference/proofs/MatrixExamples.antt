-- Calls that make matrices, and the statement `entry`, on worked scripts.
use Rattle.std.proofs.Common.{ℤ, ◌≡◌, List, [], ◌∷◌, ◌++◌, Some, None, refl}
use Rattle.std.specs.Prelude.{codes}
use Rattle.cf_reference.specs.declared.grammar.Head.TheVariants.{Kron}
use Rattle.cf_reference.specs.Reasons.{BadLevel}
use Rattle.cf_reference.specs.Calls.{Function, call_refusal}
use Rattle.cf_reference.proofs.ScriptExamples.{script, text}

-- row bits and column bits alternate
entries : text (codes "level 2" ∷ codes "var r0 c0 r1 c1" ∷ codes "let m = plus(times(r0,8),times(r1,4),times(c0,2),c1)" ∷ codes "entry m 2 1" ∷ codes "entry m 1 3" ∷ codes "value m 1001" ∷ [])
    ≡ script (codes "9" ∷ codes "7" ∷ codes "9" ∷ [])
unfolding text
entries = refl

no_matrix : text (codes "level 0" ∷ codes "entry f 0 0" ∷ []) ≡ codes "refused 2 6" ++ 10 ∷ []
unfolding text
no_matrix = refl

no_matrix_of_level_0 : text (codes "level 0" ∷ codes "let f = @0" ∷ codes "entry f 7 7" ∷ []) ≡ codes "refused 3 10" ++ 10 ∷ []
unfolding text
no_matrix_of_level_0 = refl

no_row : text (codes "level 1" ∷ codes "let f = @0" ∷ codes "entry f 1 0" ∷ codes "entry f 2 0" ∷ []) ≡ script (codes "1" ∷ codes "refused 4 11" ∷ [])
unfolding text
no_row = refl

no_column : text (codes "level 1" ∷ codes "let f = @0" ∷ codes "entry f 0 2" ∷ []) ≡ codes "refused 3 11" ++ 10 ∷ []
unfolding text
no_column = refl

-- the first matrix at the first half of the bits, times the second at the second half
joined : text (codes "level 1" ∷ codes "let m = plus(times(@0,2),@1,1)" ∷ codes "let k = kron(m,walsh(1))" ∷ codes "entry k 2 0" ∷ codes "entry k 3 3" ∷ codes "value k 1011" ∷ [])
    ≡ script (codes "3" ∷ codes "-4" ∷ codes "-3" ∷ [])
unfolding text
joined = refl

joined_walsh : text (codes "level 2" ∷ codes "let k = kron(walsh(1),walsh(1))" ∷ codes "let w = walsh(2)" ∷ codes "equal k w" ∷ [])
    ≡ codes "equal" ++ 10 ∷ []
unfolding text
joined_walsh = refl

-- the level is one higher, and at most 7
joined_too_high : (xs ys : List ℤ) → call_refusal Kron (Function (record { level = 7; values = xs }) ∷ Function (record { level = 7; values = ys }) ∷ []) ≡ Some BadLevel
joined_too_high xs ys = refl

joined_highest : (xs ys : List ℤ) → call_refusal Kron (Function (record { level = 6; values = xs }) ∷ Function (record { level = 6; values = ys }) ∷ []) ≡ None
joined_highest xs ys = refl

joined_levels : text (codes "level 1" ∷ codes "let f = kron(@0,const(0,1))" ∷ []) ≡ codes "refused 2 9" ++ 10 ∷ []
unfolding text
joined_levels = refl

-- a product that doesn't fit, at an assignment of the level above
joined_overflow : text (codes "level 0" ∷ codes "let f = times(@0,170141183460469231731687303715884105727)" ∷ codes "let g = kron(f,plus(@0,1))" ∷ []) ≡ codes "refused 3 14 11" ++ 10 ∷ []
unfolding text
joined_overflow = refl

transposed : text (codes "level 1" ∷ codes "let f = transpose(@0)" ∷ codes "let g = @1" ∷ codes "equal f g" ∷ codes "let z = transpose(const(0,1))" ∷ [])
    ≡ script (codes "equal" ∷ codes "refused 5 10" ∷ [])
unfolding text
transposed = refl

identities : text (codes "level 2" ∷ codes "let f = id(2)" ∷ codes "list f 1 5" ∷ codes "let g = id(8)" ∷ [])
    ≡ script (codes "0000" ∷ codes "0011" ∷ codes "1100" ∷ codes "1111" ∷ codes "listed 4" ∷ codes "refused 4 10" ∷ [])
unfolding text
identities = refl

no_identity : text (codes "level 2" ∷ codes "let f = id(0)" ∷ []) ≡ codes "refused 2 10" ++ 10 ∷ []
unfolding text
no_identity = refl

walsh_signs : text (codes "level 1" ∷ codes "let f = walsh(1)" ∷ codes "list f -1 5" ∷ codes "let g = walsh(0)" ∷ [])
    ≡ script (codes "11" ∷ codes "listed 1" ∷ codes "refused 4 10" ∷ [])
unfolding text
walsh_signs = refl

units : text (codes "level 1" ∷ codes "let f = unit(2,1,2)" ∷ codes "list f 1 5" ∷ codes "entry f 1 2" ∷ codes "let g = unit(2,4,0)" ∷ [])
    ≡ script (codes "0110" ∷ codes "listed 1" ∷ codes "1" ∷ codes "refused 5 11" ∷ [])
unfolding text
units = refl

unit_level_first : text (codes "level 0" ∷ codes "let f = unit(0,7,7)" ∷ []) ≡ codes "refused 2 10" ++ 10 ∷ []
unfolding text
unit_level_first = refl

unit_column : text (codes "level 0" ∷ codes "let f = unit(1,1,2)" ∷ []) ≡ codes "refused 2 11" ++ 10 ∷ []
unfolding text
unit_column = refl

squared_walsh : text (codes "level 1" ∷ codes "let w = walsh(1)" ∷ codes "let p = matmul(w,w)" ∷ codes "let q = times(id(1),2)" ∷ codes "equal p q" ∷ [])
    ≡ codes "equal" ++ 10 ∷ []
unfolding text
squared_walsh = refl

-- rows of the first matrix by columns of the second
product_in_order : text (codes "level 1" ∷ codes "let p = matmul(unit(1,0,1),unit(1,1,1))" ∷ codes "list p 1 4" ∷ codes "let q = matmul(unit(1,1,1),unit(1,0,1))" ∷ codes "first q 1" ∷ [])
    ≡ script (codes "01" ∷ codes "listed 1" ∷ codes "none" ∷ [])
unfolding text
product_in_order = refl

product_of_level_2 : text (codes "level 2" ∷ codes "let p = matmul(unit(2,1,2),unit(2,2,3))" ∷ codes "list p 1 4" ∷ codes "entry p 1 3" ∷ [])
    ≡ script (codes "0111" ∷ codes "listed 1" ∷ codes "1" ∷ [])
unfolding text
product_of_level_2 = refl

-- The sum of the products is 0 at 01, and their absolute values add to more than 2^127-1.
absolute_sums : text (codes "level 1" ∷ codes "let w = times(walsh(1),9300000000000000000)" ∷ codes "let v = times(@1,minus(1,times(2,@0)),9300000000000000000)" ∷ codes "let p = matmul(w,v)" ∷ [])
    ≡ codes "refused 4 14 01" ++ 10 ∷ []
unfolding text
absolute_sums = refl

product_levels : text (codes "level 1" ∷ codes "let p = matmul(@0,const(2,1))" ∷ []) ≡ codes "refused 2 9" ++ 10 ∷ []
unfolding text
product_levels = refl

product_of_level_0 : text (codes "level 0" ∷ codes "let p = matmul(@0,@0)" ∷ []) ≡ codes "refused 2 10" ++ 10 ∷ []
unfolding text
product_of_level_0 = refl
