use Rattle.std.proofs.Common.{◌≡◌, ◌^◌, ◌-◌, pos, negsuc, true, false, [], ◌∷◌, Some, None, refl, inl, inr, arith}
use Rattle.cf_model.specs.PairSums.{PairSum, same_pair, pair_before, IsPairBefore, IsPairSum, coefficient, total, single, with_pair, added, scaled, relabelled_pair, relabelled, weight_terms, weight}
use Rattle.cf_model.proofs.PairSumLaws.{pair_sum-with_pair, pair_sum-nil}

-- once (0, 1), and three times (1, 0)
abbrev two_pairs : PairSum
two_pairs = ((0, 1), 1) ∷ ((1, 0), 3) ∷ []

same_pair_itself : same_pair (0, 1) (0, 1) ≡ true
same_pair_itself = refl

-- a pair has an order of its own
same_pair_turned : same_pair (0, 1) (1, 0) ≡ false
same_pair_turned = refl

before_by_first : pair_before (0, 7) (1, 0) ≡ true
before_by_first = refl

before_by_second : pair_before (1, 0) (1, 2) ≡ true
before_by_second = refl

not_before_itself : pair_before (1, 0) (1, 0) ≡ false
not_before_itself = refl

is_before_by_first : IsPairBefore (0, 7) (1, 0)
is_before_by_first = inl (omega arith)

is_before_by_second : IsPairBefore (1, 0) (1, 2)
is_before_by_second = inr (refl, omega arith)

two_pairs_are_a_sum : IsPairSum two_pairs
two_pairs_are_a_sum = pair_sum-with_pair ((0, 1), 1) (((1, 0), 3) ∷ []) (omega arith) (pair_sum-with_pair ((1, 0), 3) [] (omega arith) pair_sum-nil)

-- a pair that stands twice
no_sum_twice : IsPairSum (((0, 1), 1) ∷ ((0, 1), 3) ∷ []) → ⊥
no_sum_twice s = elim (s.sorted 0 1 ((0, 0), 0) (omega arith) (omega arith)) [ inl l ↦ omega (arith, l) | inr l ↦ omega (arith, l.1) ]

-- a pair with the coefficient 0
no_sum_zero : IsPairSum (((0, 1), 0) ∷ []) → ⊥
no_sum_zero s = omega (arith, s.positive 0 ((0, 0), 0) (omega arith))

coefficient_of_10 : coefficient two_pairs (1, 0) ≡ 3
coefficient_of_10 = refl

coefficient_of_00 : coefficient two_pairs (0, 0) ≡ 0
coefficient_of_00 = refl

total_of_two_pairs : total two_pairs ≡ 4
total_of_two_pairs = refl

total_of_none : total [] ≡ 0
total_of_none = refl

single_of_21 : single 2 1 ≡ ((2, 1), 1) ∷ []
single_of_21 = refl

total_of_single : total (single 5 5) ≡ 1
total_of_single = refl

with_pair_known : with_pair ((1, 0), 2) two_pairs ≡ ((0, 1), 1) ∷ ((1, 0), 5) ∷ []
with_pair_known = refl

with_pair_new : with_pair ((0, 2), 2) two_pairs ≡ ((0, 1), 1) ∷ ((0, 2), 2) ∷ ((1, 0), 3) ∷ []
with_pair_new = refl

-- coefficients add: a pair that stands in both sums doesn't stand twice, and not once with the old coefficient
added_to_itself : added two_pairs two_pairs ≡ ((0, 1), 2) ∷ ((1, 0), 6) ∷ []
added_to_itself = refl

added_out_of_order : added (single 1 0) (single 0 1) ≡ ((0, 1), 1) ∷ ((1, 0), 1) ∷ []
added_out_of_order = refl

scaled_by_2 : scaled 2 two_pairs ≡ ((0, 1), 2) ∷ ((1, 0), 6) ∷ []
scaled_by_2 = refl

scaled_by_3 : scaled 3 (((2, 1), 5) ∷ []) ≡ ((2, 1), 15) ∷ []
scaled_by_3 = refl

relabelled_pair_01 : relabelled_pair (7 ∷ 8 ∷ []) (5 ∷ 6 ∷ []) ((0, 1), 3) ≡ ((7, 6), 3)
relabelled_pair_01 = refl

relabelled_pair_10 : relabelled_pair (7 ∷ 8 ∷ []) (5 ∷ 6 ∷ []) ((1, 0), 3) ≡ ((8, 5), 3)
relabelled_pair_10 = refl

-- two pairs become one, whose coefficient is the sum
relabelled_to_one : relabelled (4 ∷ 4 ∷ []) (5 ∷ 5 ∷ []) two_pairs ≡ ((4, 5), 4) ∷ []
relabelled_to_one = refl

-- the order is that of the new pairs
relabelled_order : relabelled (1 ∷ 0 ∷ []) (0 ∷ 1 ∷ []) two_pairs ≡ ((0, 0), 3) ∷ ((1, 1), 1) ∷ []
relabelled_order = refl

weight_terms_of_two : weight_terms (pos 2 ∷ negsuc 0 ∷ []) (pos 5 ∷ pos 7 ∷ []) two_pairs ≡ pos 14 ∷ negsuc 14 ∷ []
weight_terms_of_two = refl

weight_terms_of_none : weight_terms (pos 2 ∷ []) (pos 5 ∷ []) [] ≡ []
weight_terms_of_none = refl

-- 1 * 2 * 7 + 3 * -1 * 5
weight_of_two : weight (pos 2 ∷ negsuc 0 ∷ []) (pos 5 ∷ pos 7 ∷ []) two_pairs ≡ Some (negsuc 0)
weight_of_two = refl

-- two columns, each with the product 2^63 times -2^63: the sum -2^127 would fit, the absolute sum doesn't
weight_too_large : weight (pos (2 ^ 63) ∷ []) (negsuc (2 ^ 63 - 1) ∷ []) (((0, 0), 2) ∷ []) ≡ None
weight_too_large = refl
