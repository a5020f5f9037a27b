use Rattle.std.specs.Prelude.{◌≡◌, ℤ, pos, [], ◌∷◌, Option}
use Rattle.cf_model.specs.Values.{Fits}
use Rattle.cf_model.specs.Terms.{term}
use Rattle.cf_model.specs.declared.terms.Word1.{Word1}
use Rattle.cf_model.specs.declared.terms.Word2.{Word2}
use Rattle.cf_model.specs.declared.terms.Term.{Term, X, Y, Z, One, Fold, Ite}

-- the tree of one operation on one number
abbrev pub of_one : Word1 → Term
of_one word = One word X

-- the tree of one operation on two numbers
abbrev pub of_two : Word2 → Term
of_two word = Fold word (X ∷ Y ∷ [])

-- the tree that chooses the second or the third number by the first
abbrev pub of_three : Term
of_three = Ite X Y Z

-- A closure of one number may be called on all values that fit, and answers what the tree means, the missing
-- arguments being 0.
pub record Answers1 (pre : ℤ → Type 0) (post : ℤ → Option ℤ → Type 0) (tree : Term) : Type 0 where
  pub callable : (x : ℤ) → Fits x → pre x
  pub answer : (x : ℤ) (r : Option ℤ) → Fits x → post x r → r ≡ term tree x (pos 0) (pos 0)

-- the same of a closure of two numbers
pub record Answers2 (pre : ℤ → ℤ → Type 0) (post : ℤ → ℤ → Option ℤ → Type 0) (tree : Term) : Type 0 where
  pub callable : (x y : ℤ) → Fits x → Fits y → pre x y
  pub answer : (x y : ℤ) (r : Option ℤ) → Fits x → Fits y → post x y r → r ≡ term tree x y (pos 0)

-- the same of a closure of three numbers
pub record Answers3 (pre : ℤ → ℤ → ℤ → Type 0) (post : ℤ → ℤ → ℤ → Option ℤ → Type 0) (tree : Term) : Type 0 where
  pub callable : (x y z : ℤ) → Fits x → Fits y → Fits z → pre x y z
  pub answer : (x y z : ℤ) (r : Option ℤ) → Fits x → Fits y → Fits z → post x y z r → r ≡ term tree x y z
