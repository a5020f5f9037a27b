use Rattle.std.proofs.Common.{◌≡◌, ℕ, ◌<◌, ◌≤◌, ◌+◌, ◌^◌, ◌-◌, zero, suc, ℤ, pos, negsuc, ◌+ℤ◌, ◌*ℤ◌, Bool, true, false, List, [], ◌∷◌, take, length, get_or, refl, sym, ◌∙◌, ap, subst, arith, inl, inr}
use Rattle.std.specs.Prelude.{nat_le, sum_by, unsigned_abs, Some, None, if◌then◌else◌}
use Rattle.std.proofs.lemmas.Bool.{cases_lt}
use Rattle.std.proofs.lemmas.Bool.Decides.{nat_tests}
use Rattle.std.proofs.lemmas.List.{take_more, map_push}
use Rattle.std.proofs.lemmas.List.Sums.{sum_by-cons, sum_by-append, sum_by_more_le}
use mir.Syntax.{w128}
use mir.Val.{SFits, to_z, of_z}
use Rattle.std.proofs.lemmas.Int.{ints, to_z-of_z, fits_signed_from_abs, unsigned_abs-mul}
use Rattle.std.proofs.lemmas.Nat.{mul-le}
use Rattle.cf_model.specs.Matrices.{int_sum, absolute_sum}
use Rattle.cf_model.specs.PairSums.{PairTerm, PairSum, weight_terms, weight}
use Rattle.cf_model.proofs.MatrixLaws.{int_sum-append, sum_bound}
use Rattle.cf_comb.proofs.BitLaws.{sum_by-map}
use Rattle.cf_comb.proofs.WeightLaws.{pair_value}

pub at_least : (m n : ℕ) → (m < n → ⊥) → n ≤ m
at_least m n h = elim (cases_lt m n) [ inl lt ↦ absurd (h lt) | inr ge ↦ ge ]

-- what a term adds to a weight
abbrev pub term_value : List ℤ → List ℤ → PairTerm → ℤ
term_value v w t = pos t.1 *ℤ pair_value v w t.0

-- how large the terms of a sum are, together
abbrev pub size : List ℤ → List ℤ → PairSum → ℕ
size v w sum = absolute_sum (weight_terms v w sum)

-- and what they add to
abbrev pub value : List ℤ → List ℤ → PairSum → ℤ
value v w sum = int_sum (weight_terms v w sum)

below : (m n : ℕ) → m ≤ n → nat_le m n ≡ true
below m n h = grind (arith, nat_tests)

above : (m n : ℕ) → n < m → nat_le m n ≡ false
above m n h = grind (arith, nat_tests)

pub weight_some : (v w : List ℤ) (sum : PairSum) → size v w sum < 2 ^ 127 → weight v w sum ≡ Some (value v w sum)
weight_some v w sum h = ap (λ (b : Bool). if b then Some (value v w sum) else None) (below (size v w sum) (2 ^ 127 - 1) (omega (arith, h)))

pub weight_none : (v w : List ℤ) (sum : PairSum) → 2 ^ 127 ≤ size v w sum → weight v w sum ≡ None
weight_none v w sum h = ap (λ (b : Bool). if b then Some (value v w sum) else None) (above (size v w sum) (2 ^ 127 - 1) (omega (arith, h)))

size_by : (v w : List ℤ) (sum : PairSum) → size v w sum ≡ sum_by (λ t. unsigned_abs (term_value v w t)) sum
size_by v w sum = sum_by-map unsigned_abs (term_value v w) sum

-- one more term
pub size_more : (v w : List ℤ) (sum : PairSum) (i : ℕ) (d : PairTerm) → i < length sum → size v w (take (i + 1) sum) ≡ size v w (take i sum) + unsigned_abs (term_value v w (get_or sum i d))
size_more v w sum i d h =
    let f : PairTerm → ℕ = λ t. unsigned_abs (term_value v w t) in
    size_by v w (take (i + 1) sum) ∙ ap (sum_by f) (take_more sum i d h) ∙ sum_by-append f (take i sum) (get_or sum i d ∷ [])
    ∙ omega (arith, size_by v w (take i sum), sum_by-cons f (get_or sum i d) [])

pub size_within : (v w : List ℤ) (sum : PairSum) (i : ℕ) (d : PairTerm) → i < length sum → size v w (take i sum) + unsigned_abs (term_value v w (get_or sum i d)) ≤ size v w sum
size_within v w sum i d h =
    let f : PairTerm → ℕ = λ t. unsigned_abs (term_value v w t) in
    omega (arith, size_by v w (take i sum), size_by v w sum, sum_by_more_le f sum i d h)

pub value_more : (v w : List ℤ) (sum : PairSum) (i : ℕ) (d : PairTerm) → i < length sum → value v w (take (i + 1) sum) ≡ value v w (take i sum) +ℤ term_value v w (get_or sum i d)
value_more v w sum i d h =
    ap (λ (s : PairSum). value v w s) (take_more sum i d h) ∙ ap int_sum (map_push (term_value v w) (take i sum) (get_or sum i d))
    ∙ int_sum-append (weight_terms v w (take i sum)) (term_value v w (get_or sum i d) ∷ []) ∙ omega (arith, ints)

pub value_bound : (v w : List ℤ) (sum : PairSum) → unsigned_abs (value v w sum) ≤ size v w sum
value_bound v w sum = sum_bound (weight_terms v w sum)

-- a product of two values with a coefficient is no smaller than without
pub term_above : (count : ℕ) (z : ℤ) → 0 < count → unsigned_abs z ≤ unsigned_abs (pos count *ℤ z)
term_above count z h = omega (arith, unsigned_abs-mul (pos count) z, mul-le 1 (unsigned_abs z) count (unsigned_abs z) (omega (arith, h)) (omega arith))

-- and no smaller than the coefficient, unless it is 0
pub count_above : (count : ℕ) (z : ℤ) → 0 < unsigned_abs z → count ≤ unsigned_abs (pos count *ℤ z)
count_above count z h = omega (arith, unsigned_abs-mul (pos count) z, mul-le count 1 count (unsigned_abs z) (omega arith) (omega (arith, h)))

pub too_large : (count : ℕ) (z : ℤ) → 0 < count → (unsigned_abs z < 2 ^ 127 → ⊥) → unsigned_abs (pos count *ℤ z) < 2 ^ 127 → ⊥
too_large count z h large l = large (omega (arith, term_above count z h, l))

nonzero : (x : ℤ) → (x ≡ pos 0 → ⊥) → 0 < unsigned_abs x
nonzero (pos zero) h = absurd (h refl)
nonzero (pos (suc n)) h = omega arith
nonzero (negsuc n) h = omega arith

pub too_often : (count : ℕ) (x y : ℤ) → 2 ^ 127 ≤ count → (x ≡ pos 0 → ⊥) → (y ≡ pos 0 → ⊥) → unsigned_abs (pos count *ℤ (x *ℤ y)) < 2 ^ 127 → ⊥
too_often count x y h hx hy l =
    let some : 0 < unsigned_abs (x *ℤ y) = omega (arith, unsigned_abs-mul x y, mul-le 1 1 (unsigned_abs x) (unsigned_abs y) (omega (arith, nonzero x hx)) (omega (arith, nonzero y hy))) in
    omega (arith, count_above count (x *ℤ y) some, h, l)

-- a number as a word of 128 bits holds it
abbrev pub held : ℤ → ℤ
held z = to_z w128 (of_z w128 z)

-- what is known of a term that was worked out from words
pub term_read : (n : ℕ) (x y z : ℤ) → SFits w128 x → SFits w128 y → (unsigned_abs (pos n *ℤ (held x *ℤ held y)) < 2 ^ 127) × (z ≡ pos n *ℤ (held x *ℤ held y)) → (unsigned_abs z < 2 ^ 127) × (held z ≡ z) × (z ≡ pos n *ℤ (x *ℤ y))
term_read n x y z x_fits y_fits h =
    let small : unsigned_abs z < 2 ^ 127 = subst (λ (u : ℤ). unsigned_abs u < 2 ^ 127) (sym h.1) h.0 in
    (small, to_z-of_z w128 z (fits_signed_from_abs w128 z small), h.1 ∙ ap (λ (u : ℤ). pos n *ℤ (u *ℤ held y)) (to_z-of_z w128 x x_fits) ∙ ap (λ (u : ℤ). pos n *ℤ (x *ℤ u)) (to_z-of_z w128 y y_fits))

-- a sum of two numbers fits where their absolute values do
pub sum_fits : (x y : ℤ) → unsigned_abs x + unsigned_abs y < 2 ^ 127 → SFits w128 (x +ℤ y)
sum_fits x y h =
    let step : unsigned_abs (x +ℤ y) ≤ unsigned_abs x + unsigned_abs y = omega (arith, ints) in
    fits_signed_from_abs w128 (x +ℤ y) (omega (arith, step, h))
