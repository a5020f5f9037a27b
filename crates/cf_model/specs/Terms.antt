use Rattle.std.specs.Prelude.{ℕ, max, ℤ, pos, ◌+ℤ◌, ◌-ℤ◌, ◌*ℤ◌, neg_ℤ, int_lt, Bool, not, ◌&&◌, ◌||◌, List, [], ◌∷◌, Option, Some, None, if◌then◌else◌}
use Rattle.std.specs.Int.{int_min, int_max}
use Rattle.std.specs.Ordering.{int_eq}
use Rattle.cf_model.specs.Values.{fitting, and_then}
use Rattle.cf_model.specs.declared.terms.Word1.{Word1}
use Rattle.cf_model.specs.declared.terms.Word1.TheVariants.{Not, Neg}
use Rattle.cf_model.specs.declared.terms.Word2.{Word2}
use Rattle.cf_model.specs.declared.terms.Word2.TheVariants.{And, Or, Xor, Plus, Minus, Times, Min, Max, Eq, Lt}
use Rattle.cf_model.specs.declared.terms.Term.{Term, X, Y, Z, Num, One', Fold', Ite', Row_of-Term, end_of-Term, more_of-Term}

-- a number other than 0 counts as true
abbrev pub is_true : ℤ → Bool
is_true z = not (int_eq z (pos 0))

-- a truth as a number
abbrev pub truth : Bool → ℤ
truth b = if b then pos 1 else pos 0

-- an operation on one number, with none where the result doesn't fit
abbrev pub value1 : Word1 → ℤ → Option ℤ
value1 Not x = Some (truth (not (is_true x)))
value1 Neg x = fitting (neg_ℤ x)

-- an operation on two numbers, with none where the result doesn't fit
abbrev pub value2 : Word2 → ℤ → ℤ → Option ℤ
value2 And x y = Some (truth (is_true x && is_true y))
value2 Or x y = Some (truth (is_true x || is_true y))
value2 Xor x y = Some (truth (if is_true x then not (is_true y) else is_true y))
value2 Plus x y = fitting (x +ℤ y)
value2 Minus x y = fitting (x -ℤ y)
value2 Times x y = fitting (x *ℤ y)
value2 Min x y = Some (int_min x y)
value2 Max x y = Some (int_max x y)
value2 Eq x y = Some (truth (int_eq x y))
value2 Lt x y = Some (truth (int_lt x y))

-- the same on values, with none where one of them is none
abbrev pub joined : Word2 → Option ℤ → Option ℤ → Option ℤ
joined word a b = and_then a (λ x. and_then b (λ y. value2 word x y))

-- a fold from the left that goes on from a value; it stays none once it is
abbrev pub folded_on : Word2 → Option ℤ → List (Option ℤ) → Option ℤ
folded_on word a [] = a
folded_on word a (b ∷ bs) = folded_on word (joined word a b) bs

-- the fold of values: 0 for none of them, and the value itself for one
abbrev pub folded : Word2 → List (Option ℤ) → Option ℤ
folded word [] = Some (pos 0)
folded word (a ∷ bs) = folded_on word a bs

-- the second value where the first isn't 0, else the third, with none where one of the three is none
abbrev pub chosen : Option ℤ → Option ℤ → Option ℤ → Option ℤ
chosen a b c = and_then a (λ x. and_then b (λ y. and_then c (λ z. Some (if is_true x then y else z))))

-- the value of the term in a box
abbrev pub only : List (Option ℤ) → Option ℤ
only [] = None
only (a ∷ bs) = a

-- The value of a term at three numbers, or none: by recursion on the tree, all subterms first. (A box and a list of
-- terms are, in a definition, a shape and a row of terms.)
unfoldable mutual
  pub term : Term → ℤ → ℤ → ℤ → Option ℤ
  term X x y z = Some x
  term Y x y z = Some y
  term Z x y z = Some z
  term (Num n) x y z = Some n
  term (One' word shape row) x y z = and_then (only (terms row x y z)) (value1 word)
  term (Fold' word shape row) x y z = folded word (terms row x y z)
  term (Ite' shape_a a shape_b b shape_c c) x y z = chosen (only (terms a x y z)) (only (terms b x y z)) (only (terms c x y z))

  -- the values of a row of terms
  pub terms : {m : _} → Row_of-Term m → ℤ → ℤ → ℤ → List (Option ℤ)
  terms end_of-Term x y z = []
  terms (more_of-Term t rest) x y z = term t x y z ∷ terms rest x y z

-- How many numbers a term reads: 3 if Z stands in it, else 2 if Y does, else 1.
unfoldable mutual
  pub arity : Term → ℕ
  arity X = 1
  arity Y = 2
  arity Z = 3
  arity (Num n) = 1
  arity (One' word shape row) = row_arity row
  arity (Fold' word shape row) = row_arity row
  arity (Ite' shape_a a shape_b b shape_c c) = max (row_arity a) (max (row_arity b) (row_arity c))

  -- the same for a row of terms
  pub row_arity : {m : _} → Row_of-Term m → ℕ
  row_arity end_of-Term = 1
  row_arity (more_of-Term t rest) = max (arity t) (row_arity rest)
