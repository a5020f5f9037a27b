use Rattle.std.proofs.Common.{ℕ, ◌≡◌, ℤ, [], ◌∷◌, max, Option, Some, ◌∙◌, ap}
use Rattle.cf_model.specs.Terms.{value1, value2, joined, chosen, term, arity}
use Rattle.cf_model.specs.Values.{and_then}
use Rattle.cf_model.specs.declared.terms.Word1.{Word1}
use Rattle.cf_model.specs.declared.terms.Word2.{Word2}
use Rattle.cf_model.specs.declared.terms.Term.{X, Y, Z}
use Rattle.cf_model.proofs.TermLaws.{arity-X, arity-Y, arity-Z, arity-One, arity-Fold, arity-Ite, term-X, term-Y, term-Z, term-One, term-Fold, term-Ite}
use Rattle.cf_ops.specs.Operations.{of_one, of_two, of_three}

-- the trees of one operation
pub term-of_one : (word : Word1) (x y z : ℤ) → term (of_one word) x y z ≡ value1 word x
term-of_one word x y z = term-One word X x y z ∙ ap (λ (o : Option ℤ). and_then o (value1 word)) (term-X x y z)

pub term-of_two : (word : Word2) (x y z : ℤ) → term (of_two word) x y z ≡ value2 word x y
term-of_two word x y z = term-Fold word (X ∷ Y ∷ []) x y z ∙ ap (λ (o : Option ℤ). joined word o (term Y x y z)) (term-X x y z) ∙ ap (λ (o : Option ℤ). joined word (Some x) o) (term-Y x y z)

pub term-of_three : (x y z : ℤ) → term of_three x y z ≡ chosen (Some x) (Some y) (Some z)
term-of_three x y z =
    term-Ite X Y Z x y z
    ∙ ap (λ (o : Option ℤ). chosen o (term Y x y z) (term Z x y z)) (term-X x y z)
    ∙ ap (λ (o : Option ℤ). chosen (Some x) o (term Z x y z)) (term-Y x y z)
    ∙ ap (λ (o : Option ℤ). chosen (Some x) (Some y) o) (term-Z x y z)

pub ruleset word_laws = (term-of_one, term-of_two, term-of_three)

-- how many numbers the trees of one operation ask for
pub arity-of_one : (word : Word1) → arity (of_one word) ≡ 1
arity-of_one word = arity-One word X ∙ arity-X

pub arity-of_two : (word : Word2) → arity (of_two word) ≡ 2
arity-of_two word = arity-Fold word (X ∷ Y ∷ []) ∙ ap (λ (n : ℕ). max n (max (arity Y) 1)) arity-X ∙ ap (λ (n : ℕ). max 1 (max n 1)) arity-Y

pub arity-of_three : arity of_three ≡ 3
arity-of_three =
    arity-Ite X Y Z
    ∙ ap (λ (n : ℕ). max (max n (arity Y)) (arity Z)) arity-X
    ∙ ap (λ (n : ℕ). max (max 1 n) (arity Z)) arity-Y
    ∙ ap (λ (n : ℕ). max 2 n) arity-Z

-- what the trees of one operation are and ask for
pub ruleset operation_laws = (term-of_one, term-of_two, term-of_three, arity-of_one, arity-of_two, arity-of_three)
