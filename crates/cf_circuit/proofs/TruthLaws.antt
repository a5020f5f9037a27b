-- What operations on functions with values 0 and 1 tell.
use Rattle.std.proofs.Common.{ℕ, ℤ, ◌≡◌, pos, Bool, true, false, not, ◌&&◌, ◌||◌, List, Option, Some, None, refl, sym, ap, subst, ◌∙◌}
use Rattle.std.specs.Prelude.{if◌then◌else◌, is_some}
use Rattle.std.proofs.lemmas.Option.{get_or_from_slice_get, none-some}
use Rattle.cf_model.specs.Assignments.{number_of}
use Rattle.cf_model.specs.FlatFunctions.{IsAssignment, tabulated}
use Rattle.cf_model.specs.Terms.{truth, value1, value2, chosen}
use Rattle.cf_model.specs.declared.terms.Word1.TheVariants.{Not}
use Rattle.cf_model.specs.declared.terms.Word2.{Word2}
use Rattle.cf_model.specs.declared.terms.Word2.TheVariants.{And, Or, Lt}
use Rattle.cf_ops.specs.Operations.{of_one, of_two, of_three}
use Rattle.cf_ops.proofs.TermFacts.{term-of_one, term-of_two, term-of_three}
use Rattle.cf_pkg.specs.declared.Func.{Func}
use Rattle.cf_pkg.specs.Packages.{Package, Keeps, Means, meaning}
use Rattle.cf_pkg.specs.Jobs.{HasValues, AreLevel, IsLeastWithout, value_in, map_value, apply_value, ternary_value}
use Rattle.cf_pkg.proofs.Finishing.{values_kept, means_has}
use Rattle.cf_circuit.specs.declared.truths.Truth.{Truth}
use Rattle.cf_circuit.specs.declared.truths.Truth.TheVariants.{Never, Always, Where}
use Rattle.cf_circuit.specs.Truths.{IsTotal, Test, Shows, Tells}

-- no operation that is used here lacks a value
some-not-none : {A : Type 0} (o : Option A) → is_some o ≡ true → o ≡ None → ⊥
some-not-none None h e = let never : ⊥ = cc in never
some-not-none (Some x) h e = absurd (none-some _ (sym e))

pub map_has : (p : Package) (f : Func) (l : ℕ) (at : List Bool) → IsLeastWithout l (map_value p (of_one Not) f) at → ⊥
map_has p f l at least = none-some _ (sym least.has ∙ term-of_one Not (value_in p f at) (pos 0) (pos 0))

pub apply_has : (word : Word2) → IsTotal word → (p : Package) (f g : Func) (l : ℕ) (at : List Bool) → IsLeastWithout l (apply_value p (of_two word) f g) at → ⊥
apply_has word total p f g l at least =
    some-not-none (value2 word (value_in p f at) (value_in p g at)) (total (value_in p f at) (value_in p g at))
    (sym (term-of_two word (value_in p f at) (value_in p g at) (pos 0)) ∙ least.has)

pub choice_has : (p : Package) (f g h : Func) (l : ℕ) (at : List Bool) → IsLeastWithout l (ternary_value p of_three f g h) at → ⊥
choice_has p f g h l at least =
    none-some _ (sym least.has ∙ term-of_three (value_in p f at) (value_in p g at) (value_in p h at))

-- the value of a function that shows a test
value_told : (p : Package) (f : Func) (l : ℕ) (x : Test) → Shows p l x f → (a : List Bool) → IsAssignment l a → value_in p f a ≡ truth (x a)
value_told p f l x s a h = get_or_from_slice_get (meaning p f).values (number_of a) (truth (x a)) (pos 0) (s.values a h)

-- on 0 and 1
not_is : (u : Bool) → value1 Not (truth u) ≡ Some (truth (not u))
not_is true = refl
not_is false = refl

or_is : (u v : Bool) → value2 Or (truth u) (truth v) ≡ Some (truth (u || v))
or_is true true = refl
or_is true false = refl
or_is false true = refl
or_is false false = refl

and_is : (u v : Bool) → value2 And (truth u) (truth v) ≡ Some (truth (u && v))
and_is true true = refl
and_is true false = refl
and_is false true = refl
and_is false false = refl

less_is : (u v : Bool) → value2 Lt (truth u) (truth v) ≡ Some (truth (not u && v))
less_is true true = refl
less_is true false = refl
less_is false true = refl
less_is false false = refl

choice_is : (u v w : Bool) → chosen (Some (truth u)) (Some (truth v)) (Some (truth w)) ≡ Some (truth (if u then v else w))
choice_is true v w = refl
choice_is false v w = refl

-- the operations
pub negated_shows : (p q : Package) (f r : Func) → HasValues q r f.head.level (map_value p (of_one Not) f) → (l : ℕ) (x : Test) → Shows p l x f
    → Shows q l (λ a. not (x a)) r
negated_shows p q f r h l x s = record {
  owned = h.owned;
  level = h.level ∙ s.level;
  values = λ a is.
      h.values a (subst (λ (k : ℕ). IsAssignment k a) (sym s.level) is)
      ∙ term-of_one Not (value_in p f a) (pos 0) (pos 0)
      ∙ ap (value1 Not) (value_told p f l x s a is)
      ∙ not_is (x a);
}

joined_shows : (word : Word2) (op : Bool → Bool → Bool) → ((u v : Bool) → value2 word (truth u) (truth v) ≡ Some (truth (op u v)))
    → (p q : Package) (f g r : Func) → HasValues q r f.head.level (apply_value p (of_two word) f g)
    → (l : ℕ) (x y : Test) → Shows p l x f → Shows p l y g → Shows q l (λ a. op (x a) (y a)) r
joined_shows word op op_is p q f g r h l x y s t = record {
  owned = h.owned;
  level = h.level ∙ s.level;
  values = λ a is.
      h.values a (subst (λ (k : ℕ). IsAssignment k a) (sym s.level) is)
      ∙ term-of_two word (value_in p f a) (value_in p g a) (pos 0)
      ∙ ap (λ m. value2 word m (value_in p g a)) (value_told p f l x s a is)
      ∙ ap (λ m. value2 word (truth (x a)) m) (value_told p g l y t a is)
      ∙ op_is (x a) (y a);
}

pub or_shows : (p q : Package) (f g r : Func) → HasValues q r f.head.level (apply_value p (of_two Or) f g)
    → (l : ℕ) (x y : Test) → Shows p l x f → Shows p l y g → Shows q l (λ a. x a || y a) r
or_shows = joined_shows Or (λ u v. u || v) or_is

pub and_shows : (p q : Package) (f g r : Func) → HasValues q r f.head.level (apply_value p (of_two And) f g)
    → (l : ℕ) (x y : Test) → Shows p l x f → Shows p l y g → Shows q l (λ a. x a && y a) r
and_shows = joined_shows And (λ u v. u && v) and_is

pub less_shows : (p q : Package) (f g r : Func) → HasValues q r f.head.level (apply_value p (of_two Lt) f g)
    → (l : ℕ) (x y : Test) → Shows p l x f → Shows p l y g → Shows q l (λ a. not (x a) && y a) r
less_shows = joined_shows Lt (λ u v. not u && v) less_is

pub chosen_shows : (p q : Package) (f g h r : Func) → HasValues q r f.head.level (ternary_value p of_three f g h)
    → (l : ℕ) (x y z : Test) → Shows p l x f → Shows p l y g → Shows p l z h → Shows q l (λ a. if x a then y a else z a) r
chosen_shows p q f g h r v l x y z s t u = record {
  owned = v.owned;
  level = v.level ∙ s.level;
  values = λ a is.
      v.values a (subst (λ (k : ℕ). IsAssignment k a) (sym s.level) is)
      ∙ term-of_three (value_in p f a) (value_in p g a) (value_in p h a)
      ∙ ap (λ m. chosen (Some m) (Some (value_in p g a)) (Some (value_in p h a))) (value_told p f l x s a is)
      ∙ ap (λ m. chosen (Some (truth (x a))) (Some m) (Some (value_in p h a))) (value_told p g l y t a is)
      ∙ ap (λ m. chosen (Some (truth (x a))) (Some (truth (y a))) (Some m)) (value_told p h l z u a is)
      ∙ choice_is (x a) (y a) (z a);
}

-- what is told stays so in a package that grows, and of a test that is equal
pub tells_kept : (p q : Package) → Keeps p q → (l : ℕ) (x : Test) (t : Truth) → Tells p l x t → Tells q l x t
tells_kept p q k l x Never h = h
tells_kept p q k l x Always h = h
tells_kept p q k l x (Where f) h = values_kept p q k f l (λ a. Some (truth (x a))) h

pub tells_same : (p : Package) (l : ℕ) (x y : Test) (t : Truth) → Tells p l x t → ((a : List Bool) → IsAssignment l a → x a ≡ y a) → Tells p l y t
tells_same p l x y Never h same = λ a is. sym (same a is) ∙ h a is
tells_same p l x y Always h same = λ a is. sym (same a is) ∙ h a is
tells_same p l x y (Where f) h same = record {
  owned = h.owned;
  level = h.level;
  values = λ a is. h.values a is ∙ ap (λ b. Some (truth b)) (same a is);
}

-- functions of a package, of one level
pub level_of_two : (p : Package) (f g : Func) (l : ℕ) (x y : Test) → Shows p l x f → Shows p l y g → AreLevel p f g
level_of_two p f g l x y s t = record { first = s.owned; second = t.owned; level = s.level ∙ sym t.level }

-- constants
pub constant_shows : (q : Package) (r : Func) (l : ℕ) (b : Bool) (v : ℤ) → v ≡ truth b → r.head.level ≡ l → Means q r (tabulated l (λ a. v))
    → (x : Test) → ((a : List Bool) → IsAssignment l a → x a ≡ b) → Shows q l x r
constant_shows q r l b v e level m x is =
    let h = means_has q r l (λ a. v) level m in
    record { owned = h.owned; level = h.level; values = λ a at. h.values a at ∙ ap Some e ∙ ap (λ c. Some (truth c)) (sym (is a at)) }
