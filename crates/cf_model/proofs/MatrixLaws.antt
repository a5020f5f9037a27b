use Rattle.std.proofs.Common.{◌≡◌, ◌≢◌, ℕ, zero, suc, ◌<◌, ◌≤◌, ◌+◌, ◌*◌, ◌%◌, ◌^◌, ◌-◌, ℤ, pos, negsuc, ◌+ℤ◌, ◌*ℤ◌, Bool, true, false, List, [], ◌∷◌, ◌++◌, length, Some, refl, sym, ◌∙◌, ap, subst, arith, length-append}
use Rattle.std.specs.Prelude.{◌==◌, ◌&&◌, nat_le, unsigned_abs, if◌then◌else◌}
use mir.Syntax.{w128}
use Rattle.std.proofs.lemmas.Bool.Decides.{nat_tests}
use Rattle.std.proofs.lemmas.Option.{cond_some}
use Rattle.std.proofs.lemmas.Int.{fits_signed_from_abs, ints}
use Rattle.std.proofs.lemmas.List.Sums.{sum_by-append, sum_by-cons}
use Rattle.cf_model.specs.Assignments.{number_of, weave, row_of, column_of}
use Rattle.cf_model.specs.Values.{Fits}
use Rattle.cf_model.specs.Matrices.{Matrix, entry, int_sum, absolute_sum, bounded_sum, product_entry, product, transpose, identity, common_ones, walsh}
use Rattle.cf_model.proofs.AssignmentLaws.{row_of-weave, column_of-weave, weave-unweave, length-unweave, weave-append, same_from_number}

-- what stands at a row and a column
pub entry-transpose : (m : Matrix) (row col : List Bool) → length row ≡ length col → entry (transpose m) row col ≡ entry m col row
entry-transpose m row col e = ap (λ (r : List Bool). m (weave (column_of (weave row col)) r)) (row_of-weave row col e) ∙ ap (λ (c : List Bool). m (weave c row)) (column_of-weave row col e)

pub product-weave : (k : ℕ) (m n : Matrix) (row col : List Bool) → length row ≡ length col → product k m n (weave row col) ≡ product_entry k m n row col
product-weave k m n row col e = ap (λ (r : List Bool). product_entry k m n r (column_of (weave row col))) (row_of-weave row col e) ∙ ap (λ (c : List Bool). product_entry k m n row c) (column_of-weave row col e)

-- transposing twice
pub transpose-transpose : (m : Matrix) (h : ℕ) (bits : List Bool) → length bits ≡ 2 * h → transpose (transpose m) bits ≡ m bits
transpose-transpose m h bits e =
    let l = length-unweave h bits e in
    entry-transpose m (column_of bits) (row_of bits) (l.1 ∙ sym l.0) ∙ ap m (weave-unweave h bits e)

test_same : (a b : ℕ) → a ≡ b → (a == b) ≡ true
test_same a b e = grind (arith, nat_tests, e)

test_other : (a b : ℕ) → a ≢ b → (a == b) ≡ false
test_other a b d = grind (arith, nat_tests, d)

-- the identity has 1 where row and column are equal, and 0 elsewhere
pub identity-same : (row : List Bool) → entry identity row row ≡ pos 1
identity-same row =
    let e : (number_of (row_of (weave row row)) == number_of (column_of (weave row row))) ≡ true = test_same _ _ (ap number_of (row_of-weave row row refl ∙ sym (column_of-weave row row refl))) in
    ap (λ (b : Bool). if b then pos 1 else pos 0) e

pub identity-other : (row col : List Bool) → length row ≡ length col → row ≢ col → entry identity row col ≡ pos 0
identity-other row col l d =
    let differ : number_of (row_of (weave row col)) ≢ number_of (column_of (weave row col)) = λ e. d (same_from_number row col l (ap number_of (sym (row_of-weave row col l)) ∙ e ∙ ap number_of (column_of-weave row col l))) in
    ap (λ (b : Bool). if b then pos 1 else pos 0) (test_other _ _ differ)

-- sums over two lists, one after the other
pub int_sum-append : (xs ys : List ℤ) → int_sum (xs ++ ys) ≡ int_sum xs +ℤ int_sum ys
int_sum-append [] ys = omega (arith, ints)
int_sum-append (x ∷ xs) ys = ap (λ (z : ℤ). x +ℤ z) (int_sum-append xs ys) ∙ omega (arith, ints)

pub absolute_sum-append : (xs ys : List ℤ) → absolute_sum (xs ++ ys) ≡ absolute_sum xs + absolute_sum ys
absolute_sum-append xs ys = sum_by-append unsigned_abs xs ys

-- a sum is at most the sum of the absolute values
pub sum_bound : (zs : List ℤ) → unsigned_abs (int_sum zs) ≤ absolute_sum zs
sum_bound [] = omega arith
sum_bound (z ∷ zs) =
    let i = sum_bound zs in
    let step : unsigned_abs (z +ℤ int_sum zs) ≤ unsigned_abs z + unsigned_abs (int_sum zs) = omega (arith, ints) in
    omega (arith, i, step, sum_by-cons unsigned_abs z zs)

-- a bounded sum fits
pub bounded_sum-fits : (zs : List ℤ) (z : ℤ) → bounded_sum zs ≡ Some z → Fits z
bounded_sum-fits zs z e =
    let r = cond_some (nat_le (absolute_sum zs) (2 ^ 127 - 1)) (int_sum zs) z e in
    let le : absolute_sum zs ≤ 2 ^ 127 - 1 = grind (arith, nat_tests, r.0) in
    subst (λ (v : ℤ). Fits v) r.1 (fits_signed_from_abs w128 (int_sum zs) (omega (arith, le, sum_bound zs)))

-- the number of common ones
pub common_ones-append : (a b c d : List Bool) → length a ≡ length c → common_ones (a ++ b) (c ++ d) ≡ common_ones a c + common_ones b d
common_ones-append [] b [] d e = omega arith
common_ones-append [] b (y ∷ c) d e = absurd (omega (arith, e))
common_ones-append (x ∷ a) b [] d e = absurd (omega (arith, e))
common_ones-append (x ∷ a) b (y ∷ c) d e = omega (arith, common_ones-append a b c d (let l : length a ≡ length c = omega (arith, e) in l))

and_turned : (x y : Bool) → (x && y) ≡ (y && x)
and_turned true true = refl
and_turned true false = refl
and_turned false true = refl
and_turned false false = refl

pub common_ones-turned : (a c : List Bool) → length a ≡ length c → common_ones a c ≡ common_ones c a
common_ones-turned [] [] e = refl
common_ones-turned [] (y ∷ c) e = absurd (omega (arith, e))
common_ones-turned (x ∷ a) [] e = absurd (omega (arith, e))
common_ones-turned (x ∷ a) (y ∷ c) e =
    ap (λ (b : Bool). (if b then 1 else 0) + common_ones a c) (and_turned x y) ∙ ap (λ (n : ℕ). (if y && x then 1 else 0) + n) (common_ones-turned a c (omega (arith, e)))

-- the sign of a number of ones
abbrev pub sign : ℕ → ℤ
sign n = if n % 2 == 1 then negsuc 0 else pos 1

sign_by : (m n k : ℕ) → m < 2 → n < 2 → k ≡ (m + n) % 2 → (if k == 1 then negsuc 0 else pos 1) ≡ (if m == 1 then negsuc 0 else pos 1) *ℤ (if n == 1 then negsuc 0 else pos 1)
sign_by zero zero k hm hn e = ap (λ (j : ℕ). if j == 1 then negsuc 0 else pos 1) e
sign_by zero (suc zero) k hm hn e = ap (λ (j : ℕ). if j == 1 then negsuc 0 else pos 1) e
sign_by zero (suc (suc n)) k hm hn e = absurd (omega (arith, hn))
sign_by (suc zero) zero k hm hn e = ap (λ (j : ℕ). if j == 1 then negsuc 0 else pos 1) e
sign_by (suc zero) (suc zero) k hm hn e = ap (λ (j : ℕ). if j == 1 then negsuc 0 else pos 1) e
sign_by (suc zero) (suc (suc n)) k hm hn e = absurd (omega (arith, hn))
sign_by (suc (suc m)) n k hm hn e = absurd (omega (arith, hm))

pub sign-add : (m n : ℕ) → sign (m + n) ≡ sign m *ℤ sign n
sign-add m n = sign_by (m % 2) (n % 2) ((m + n) % 2) (omega arith) (omega arith) (omega arith)

-- the Walsh matrix at a row and a column
pub entry-walsh : (row col : List Bool) → length row ≡ length col → entry walsh row col ≡ sign (common_ones row col)
entry-walsh row col e = ap (λ (r : List Bool). sign (common_ones r (column_of (weave row col)))) (row_of-weave row col e) ∙ ap (λ (c : List Bool). sign (common_ones row c)) (column_of-weave row col e)

-- it is the Kronecker product of two smaller ones
pub walsh-halves : (a b c d : List Bool) → length a ≡ length c → length b ≡ length d → walsh (weave a c ++ weave b d) ≡ walsh (weave a c) *ℤ walsh (weave b d)
walsh-halves a b c d e f =
    ap walsh (sym (weave-append a b c d e))
    ∙ entry-walsh (a ++ b) (c ++ d) (length-append a b ∙ omega (arith, e, f, length-append c d))
    ∙ ap sign (common_ones-append a b c d e)
    ∙ sign-add (common_ones a c) (common_ones b d)
    ∙ ap (λ (z : ℤ). z *ℤ sign (common_ones b d)) (sym (entry-walsh a c e))
    ∙ ap (λ (z : ℤ). walsh (weave a c) *ℤ z) (sym (entry-walsh b d f))

-- and its own transpose
pub walsh-turned : (row col : List Bool) → length row ≡ length col → entry walsh col row ≡ entry walsh row col
walsh-turned row col e = entry-walsh col row (sym e) ∙ ap sign (common_ones-turned col row (sym e)) ∙ sym (entry-walsh row col e)
