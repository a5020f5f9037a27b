use Rattle.std.proofs.Common.{◌≡◌, ◌^◌, ◌-◌, ℤ, pos, negsuc, true, false, [], ◌∷◌, Some, None, refl}
use Rattle.cf_model.specs.Terms.{is_true, truth, value1, value2, joined, folded_on, folded, chosen, only, term, terms, arity, row_arity}
use Rattle.cf_model.specs.declared.terms.Word1.TheVariants.{Not, Neg}
use Rattle.cf_model.specs.declared.terms.Word2.TheVariants.{And, Or, Xor, Plus, Minus, Times, Min, Max, Eq, Lt}
use Rattle.cf_model.specs.declared.terms.Term.{Term, X, Y, Z, Num, One, Fold, Ite, end_of-Term, more_of-Term}

-- the ends of the range
abbrev greatest : ℤ
greatest = pos (2 ^ 127 - 1)

abbrev least : ℤ
least = negsuc (2 ^ 127 - 1)

true_of_minus_one : is_true (negsuc 0) ≡ true
true_of_minus_one = refl

true_of_zero : is_true (pos 0) ≡ false
true_of_zero = refl

truth_of_true : truth true ≡ pos 1
truth_of_true = refl

truth_of_false : truth false ≡ pos 0
truth_of_false = refl

not_7 : value1 Not (pos 7) ≡ Some (pos 0)
not_7 = refl

neg_7 : value1 Neg (pos 7) ≡ Some (negsuc 6)
neg_7 = refl

-- the least number has no negative in the range
neg_least : value1 Neg least ≡ None
neg_least = refl

-- any number other than 0 is true, and the result is 1
and_2_3 : value2 And (pos 2) (pos 3) ≡ Some (pos 1)
and_2_3 = refl

-- And isn't Or: one that is true isn't enough
and_2_0 : value2 And (pos 2) (pos 0) ≡ Some (pos 0)
and_2_0 = refl

and_0_3 : value2 And (pos 0) (pos 3) ≡ Some (pos 0)
and_0_3 = refl

or_0_3 : value2 Or (pos 0) (pos 3) ≡ Some (pos 1)
or_0_3 = refl

or_2_0 : value2 Or (pos 2) (pos 0) ≡ Some (pos 1)
or_2_0 = refl

-- Or isn't Xor: both are true
or_2_3 : value2 Or (pos 2) (pos 3) ≡ Some (pos 1)
or_2_3 = refl

-- Or isn't 1
or_0_0 : value2 Or (pos 0) (pos 0) ≡ Some (pos 0)
or_0_0 = refl

xor_2_3 : value2 Xor (pos 2) (pos 3) ≡ Some (pos 0)
xor_2_3 = refl

-- Xor isn't 0: exactly one is true, whichever it is
xor_2_0 : value2 Xor (pos 2) (pos 0) ≡ Some (pos 1)
xor_2_0 = refl

xor_0_3 : value2 Xor (pos 0) (pos 3) ≡ Some (pos 1)
xor_0_3 = refl

plus_2_3 : value2 Plus (pos 2) (pos 3) ≡ Some (pos 5)
plus_2_3 = refl

plus_too_large : value2 Plus greatest (pos 1) ≡ None
plus_too_large = refl

minus_2_3 : value2 Minus (pos 2) (pos 3) ≡ Some (negsuc 0)
minus_2_3 = refl

minus_too_small : value2 Minus least (pos 1) ≡ None
minus_too_small = refl

times_too_large : value2 Times (pos (2 ^ 64)) (pos (2 ^ 63)) ≡ None
times_too_large = refl

-- the least number is a product of two that fit
times_least : value2 Times (pos (2 ^ 64)) (negsuc (2 ^ 63 - 1)) ≡ Some least
times_least = refl

min_of_signs : value2 Min (negsuc 4) (pos 3) ≡ Some (negsuc 4)
min_of_signs = refl

-- Min isn't its first
min_second : value2 Min (pos 3) (negsuc 4) ≡ Some (negsuc 4)
min_second = refl

max_of_signs : value2 Max (negsuc 4) (pos 3) ≡ Some (pos 3)
max_of_signs = refl

-- Max isn't its second
max_first : value2 Max (pos 3) (negsuc 4) ≡ Some (pos 3)
max_first = refl

-- equal as numbers, and not as truths
eq_2_3 : value2 Eq (pos 2) (pos 3) ≡ Some (pos 0)
eq_2_3 = refl

-- Eq isn't 0
eq_3_3 : value2 Eq (pos 3) (pos 3) ≡ Some (pos 1)
eq_3_3 = refl

lt_of_signs : value2 Lt (negsuc 4) (pos 3) ≡ Some (pos 1)
lt_of_signs = refl

-- Lt isn't at most
lt_itself : value2 Lt (pos 3) (pos 3) ≡ Some (pos 0)
lt_itself = refl

-- nor is it unequal
lt_turned : value2 Lt (pos 3) (negsuc 4) ≡ Some (pos 0)
lt_turned = refl

joined_values : joined Plus (Some (pos 2)) (Some (pos 3)) ≡ Some (pos 5)
joined_values = refl

joined_none : joined Min None (Some (pos 3)) ≡ None
joined_none = refl

folded_on_two : folded_on Plus (Some (pos 1)) (Some (pos 2) ∷ Some (pos 3) ∷ []) ≡ Some (pos 6)
folded_on_two = refl

folded_on_none_left : folded_on Plus (Some (pos 1)) [] ≡ Some (pos 1)
folded_on_none_left = refl

-- from the left: (9 - 2) - 3
folded_minus : folded Minus (Some (pos 9) ∷ Some (pos 2) ∷ Some (pos 3) ∷ []) ≡ Some (pos 4)
folded_minus = refl

-- one value is left as it is, and is made no truth
folded_one : folded And (Some (pos 7) ∷ []) ≡ Some (pos 7)
folded_one = refl

folded_nothing : folded Times [] ≡ Some (pos 0)
folded_nothing = refl

-- a step out of the range gives none, though the whole sum would fit
folded_step : folded Plus (Some greatest ∷ Some (pos 1) ∷ Some (negsuc 0) ∷ []) ≡ None
folded_step = refl

chosen_second : chosen (Some (negsuc 0)) (Some (pos 5)) (Some (pos 6)) ≡ Some (pos 5)
chosen_second = refl

-- a choice isn't its second value
chosen_third : chosen (Some (pos 0)) (Some (pos 5)) (Some (pos 6)) ≡ Some (pos 6)
chosen_third = refl

-- also the value that isn't chosen has to be there
chosen_none : chosen (Some (pos 1)) (Some (pos 5)) None ≡ None
chosen_none = refl

only_of_one : only (Some (pos 5) ∷ []) ≡ Some (pos 5)
only_of_one = refl

only_of_none : only [] ≡ None
only_of_none = refl

term_y : term Y (pos 1) (pos 2) (pos 3) ≡ Some (pos 2)
unfolding term
term_y = refl

-- min(255, x + y)
abbrev clamp : Term
clamp = Fold Min (Num (pos 255) ∷ Fold Plus (X ∷ Y ∷ []) ∷ [])

clamp_small : term clamp (pos 200) (pos 0) (pos 0) ≡ Some (pos 200)
unfolding term terms Rattle.cf_model.specs.declared.terms.Term.TheBlock.hidden-the_row-Term-1 denote.Hole.Carrier.hidden
clamp_small = refl

clamp_large : term clamp (pos 200) (pos 100) (pos 0) ≡ Some (pos 255)
unfolding term terms Rattle.cf_model.specs.declared.terms.Term.TheBlock.hidden-the_row-Term-1 denote.Hole.Carrier.hidden
clamp_large = refl

-- the sum has no value, so the smaller one has none either
clamp_none : term clamp greatest (pos 1) (pos 0) ≡ None
unfolding term terms Rattle.cf_model.specs.declared.terms.Term.TheBlock.hidden-the_row-Term-1 denote.Hole.Carrier.hidden
clamp_none = refl

ite_of_not : term (Ite (One Not X) Y Z) (pos 0) (pos 5) (pos 6) ≡ Some (pos 5)
unfolding term terms Rattle.cf_model.specs.declared.terms.Term.TheBlock.hidden-the_row-Term-1 denote.Hole.Carrier.hidden
ite_of_not = refl

-- the greatest number that is read, however often
arity_of_clamp : arity clamp ≡ 2
unfolding arity row_arity Rattle.cf_model.specs.declared.terms.Term.TheBlock.hidden-the_row-Term-1 denote.Hole.Carrier.hidden
arity_of_clamp = refl

-- a constant counts as an operation of one number
arity_of_constant : arity (Num (pos 7)) ≡ 1
unfolding arity
arity_of_constant = refl

-- Z alone asks for three
arity_of_z : arity (Fold Plus (X ∷ Z ∷ [])) ≡ 3
unfolding arity row_arity Rattle.cf_model.specs.declared.terms.Term.TheBlock.hidden-the_row-Term-1 denote.Hole.Carrier.hidden
arity_of_z = refl

row_arity_of_none : row_arity end_of-Term ≡ 1
unfolding row_arity
row_arity_of_none = refl

row_arity_of_one : row_arity (more_of-Term Y end_of-Term) ≡ 2
unfolding arity row_arity
row_arity_of_one = refl

terms_of_two : terms (more_of-Term X (more_of-Term Y end_of-Term)) (pos 1) (pos 2) (pos 3) ≡ Some (pos 1) ∷ Some (pos 2) ∷ []
unfolding term terms
terms_of_two = refl

terms_of_none : terms end_of-Term (pos 1) (pos 2) (pos 3) ≡ []
unfolding terms
terms_of_none = refl
