use Rattle.std.proofs.Common.{◌≡◌, ℕ, ◌≤◌, max, arith, ℤ, List, [], ◌∷◌, map, Option, Some, None, refl, sym, ◌∙◌, ap, Bool}
use Rattle.std.specs.Prelude.{if◌then◌else◌}
use Rattle.std.proofs.lemmas.Option.{cond_some}
use Rattle.cf_model.specs.Values.{Fits, fits, fitting, and_then}
use Rattle.cf_model.specs.Terms.{value1, folded_on, folded, chosen, term, terms, arity, row_arity}
use Rattle.cf_model.specs.declared.terms.Word1.{Word1}
use Rattle.cf_model.specs.declared.terms.Word2.{Word2}
use Rattle.cf_model.specs.declared.terms.Term.{Term, X, Y, Z, Num, One, Fold, Ite, One', Fold', Ite', Row_of-Term, end_of-Term, more_of-Term}
use Rattle.cf_model.proofs.FlatFunctionLaws.{fits_decides}

-- the value of each form of term
pub term-X : (x y z : ℤ) → term X x y z ≡ Some x
unfolding term
term-X x y z = refl

pub term-Y : (x y z : ℤ) → term Y x y z ≡ Some y
unfolding term
term-Y x y z = refl

pub term-Z : (x y z : ℤ) → term Z x y z ≡ Some z
unfolding term
term-Z x y z = refl

pub term-Num : (n x y z : ℤ) → term (Num n) x y z ≡ Some n
unfolding term
term-Num n x y z = refl

pub term-One : (word : Word1) (t : Term) (x y z : ℤ) → term (One word t) x y z ≡ and_then (term t x y z) (value1 word)
unfolding term terms Rattle.cf_model.specs.declared.terms.Term.TheBlock.hidden-the_row-Term-1 denote.Hole.Carrier.hidden
term-One word t x y z = refl

-- the values of a fold's terms
unfoldable parts : Term → ℤ → ℤ → ℤ → List (Option ℤ)
parts (Fold' word shape row) x y z = terms row x y z
parts _ x y z = []

parts-Fold : (word : Word2) (ts : List Term) (x y z : ℤ) → parts (Fold word ts) x y z ≡ map (λ t. term t x y z) ts
unfolding parts term terms Rattle.cf_model.specs.declared.terms.Term.TheBlock.hidden-the_row-Term-1 denote.Hole.Carrier.hidden
parts-Fold word [] x y z = refl
parts-Fold word (t ∷ ts) x y z = ap (λ (values : List (Option ℤ)). term t x y z ∷ values) (parts-Fold word ts x y z)

pub term-Fold : (word : Word2) (ts : List Term) (x y z : ℤ) → term (Fold word ts) x y z ≡ folded word (map (λ t. term t x y z) ts)
unfolding parts term terms Rattle.cf_model.specs.declared.terms.Term.TheBlock.hidden-the_row-Term-1 denote.Hole.Carrier.hidden
term-Fold word ts x y z = ap (folded word) (parts-Fold word ts x y z)

pub term-Ite : (a b c : Term) (x y z : ℤ) → term (Ite a b c) x y z ≡ chosen (term a x y z) (term b x y z) (term c x y z)
unfolding term terms Rattle.cf_model.specs.declared.terms.Term.TheBlock.hidden-the_row-Term-1 denote.Hole.Carrier.hidden
term-Ite a b c x y z = refl

-- a fold that has become none stays none
pub folded_on-none : (word : Word2) (bs : List (Option ℤ)) → folded_on word None bs ≡ None
folded_on-none word [] = refl
folded_on-none word (b ∷ bs) = folded_on-none word bs

-- a value of a fitting result is the result, and fits
pub fitting-some : (z v : ℤ) → fitting z ≡ Some v → (z ≡ v) × Fits v
fitting-some z v e =
    let r = cond_some (fits z) z v e in
    (r.1, (fits_decides v).0 (ap fits (sym r.1) ∙ r.0))

-- a result that fits is its own value
pub fitting-fits : (z : ℤ) → Fits z → fitting z ≡ Some z
fitting-fits z h = ap (λ (b : Bool). if b then Some z else None) ((fits_decides z).1 h)

-- every term reads at least one number
row_low : {m : _} (row : Row_of-Term m) → 1 ≤ row_arity row
unfolding arity row_arity
row_low end_of-Term = omega arith
row_low (more_of-Term t rest) = omega (arith, row_low rest)

pub arity_low : (t : Term) → 1 ≤ arity t
unfolding arity row_arity
arity_low X = omega arith
arity_low Y = omega arith
arity_low Z = omega arith
arity_low (Num n) = omega arith
arity_low (One' word shape row) = row_low row
arity_low (Fold' word shape row) = row_low row
arity_low (Ite' shape_a a shape_b b shape_c c) = omega (arith, row_low a)

-- how many numbers each form of term reads
pub arity-X : arity X ≡ 1
unfolding arity
arity-X = refl

pub arity-Y : arity Y ≡ 2
unfolding arity
arity-Y = refl

pub arity-Z : arity Z ≡ 3
unfolding arity
arity-Z = refl

pub arity-Num : (n : ℤ) → arity (Num n) ≡ 1
unfolding arity
arity-Num n = refl

boxed_arity : (word : Word1) (t : Term) → arity (One word t) ≡ max (arity t) 1
unfolding arity row_arity Rattle.cf_model.specs.declared.terms.Term.TheBlock.hidden-the_row-Term-1 denote.Hole.Carrier.hidden
boxed_arity word t = refl

pub arity-One : (word : Word1) (t : Term) → arity (One word t) ≡ arity t
arity-One word t = boxed_arity word t ∙ omega (arith, arity_low t)

three_arities : (a b c : Term) → arity (Ite a b c) ≡ max (max (arity a) 1) (max (max (arity b) 1) (max (arity c) 1))
unfolding arity row_arity Rattle.cf_model.specs.declared.terms.Term.TheBlock.hidden-the_row-Term-1 denote.Hole.Carrier.hidden
three_arities a b c = refl

pub arity-Ite : (a b c : Term) → arity (Ite a b c) ≡ max (max (arity a) (arity b)) (arity c)
arity-Ite a b c = three_arities a b c ∙ omega (arith, arity_low a, arity_low b, arity_low c)

-- how many numbers the terms of a list read
abbrev pub most_arity : List Term → ℕ
most_arity [] = 1
most_arity (t ∷ ts) = max (arity t) (most_arity ts)

pub most_low : (ts : List Term) → 1 ≤ most_arity ts
most_low [] = omega arith
most_low (t ∷ ts) = omega (arith, most_low ts)

unfoldable parts_arity : Term → ℕ
parts_arity (Fold' word shape row) = row_arity row
parts_arity _ = 1

parts_arity-Fold : (word : Word2) (ts : List Term) → parts_arity (Fold word ts) ≡ most_arity ts
unfolding parts_arity arity row_arity Rattle.cf_model.specs.declared.terms.Term.TheBlock.hidden-the_row-Term-1 denote.Hole.Carrier.hidden
parts_arity-Fold word [] = refl
parts_arity-Fold word (t ∷ ts) = ap (λ (n : ℕ). max (arity t) n) (parts_arity-Fold word ts)

pub arity-Fold : (word : Word2) (ts : List Term) → arity (Fold word ts) ≡ most_arity ts
unfolding parts_arity arity row_arity Rattle.cf_model.specs.declared.terms.Term.TheBlock.hidden-the_row-Term-1 denote.Hole.Carrier.hidden
arity-Fold word ts = parts_arity-Fold word ts

pub ruleset arity_laws = (arity-X, arity-Y, arity-Z, arity-Num, arity-One, arity-Ite, arity-Fold)

pub ruleset term_laws = (term-X, term-Y, term-Z, term-Num, term-One, term-Fold, term-Ite)
