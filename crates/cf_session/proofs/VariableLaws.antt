-- What calls over variables mean, and the jobs that give it.
use Rattle.std.proofs.Common.{ℕ, ℤ, ◌≡◌, ◌<◌, ◌^◌, Bool, true, List, [], ◌∷◌, map, Option, Some, None, refl, sym, ap, subst, ◌∙◌}
use Rattle.std.specs.Prelude.{nat_abs, All}
use Rattle.std.specs.List.{list_all}
use Rattle.std.proofs.Math.Path.{fun_ext}
use Rattle.std.proofs.lemmas.List.Elements.{All-cons, All-nil}
use Rattle.cf_model.specs.Pointwise.{restricted}
use Rattle.cf_model.specs.Quantified.{over_all, some_setting, every_setting, composed, both}
use Rattle.cf_model.specs.Terms.{is_true}
use Rattle.cf_model.specs.FlatFunctions.{IsFlatFunction, IsAssignment}
use Rattle.cf_model.specs.declared.terms.Word2.TheVariants.{Plus}
use Rattle.cf_pkg.specs.declared.Func.{Func}
use Rattle.cf_pkg.specs.Packages.{Package, meaning}
use Rattle.cf_pkg.specs.Jobs.{HasValues, value_in}
use Rattle.cf_restrict.specs.Quantified.{some_value, IsFirstFailing}
use Rattle.cf_reference.specs.declared.grammar.Head.{Head}
use Rattle.cf_reference.specs.declared.grammar.Head.TheVariants.{Restrict, Exists, Forall, SumOut, Compose, AndExists}
use Rattle.cf_reference.specs.declared.grammar.Kind.TheVariants.{Variable as AVariable}
use Rattle.cf_reference.specs.States.{at, is_below}
use Rattle.cf_reference.specs.Calls.{Meant, Function, Position, Number, positions, places, call_refusal}
use Rattle.cf_reference.specs.Failures.{first_failure}
use Rattle.cf_reference.proofs.WalkLaws.{ruled}
use Rattle.cf_reference.proofs.TestFacts.{left, right}
use Rattle.cf_session.specs.declared.values.Value.{Value}
use Rattle.cf_session.specs.declared.values.Value.TheVariants as value
use Rattle.cf_session.specs.Values.{meanings, places_of, AreOf, steps_behind, call_parts, Calls}
use Rattle.cf_session.proofs.HeadFacts.{none_behind}
use Rattle.cf_session.proofs.Jobs.{at-value, job_calls}
use Rattle.cf_session.proofs.SumSteps.{at_places, none_steps, first_step}
use Rattle.cf_session.proofs.Walked.{below_is}
use Rattle.cf_session.proofs.Built.{fault_turned}
use Rattle.cf_session.specs.declared.faults.StepFault.{StepFault}
use Rattle.cf_session.specs.Building.{IsFault}
use Rattle.cf_reference.proofs.ValueLaws.{has_value}

pub at_same : (p : Package) (f : Func) → value_in p f ≡ at (meaning p f)
at_same p f = fun_ext (at-value p f)

pub places_are : (p : Package) (vs : List Value) → places (meanings p vs) ≡ places_of vs
places_are p [] = refl
places_are p (value.Function f ∷ vs) = places_are p vs
places_are p (value.Position i ∷ vs) = ap (λ l. nat_abs i ∷ l) (places_are p vs)
places_are p (value.Number n ∷ vs) = places_are p vs

-- restriction
pub restrict_calls : (p q : Package) (f r : Func) (i b : ℤ) → HasValues q r f.head.level (λ bits. Some (restricted (value_in p f) (nat_abs i) (is_true b) bits)) → IsFlatFunction (meaning q r)
    → Calls Restrict (Function (meaning p f) ∷ Position i ∷ Number b ∷ []) q r
restrict_calls p q f r i b v flat =
    job_calls Restrict (Function (meaning p f) ∷ Position i ∷ Number b ∷ []) q r f.head.level _ v flat refl
    (λ bits. ap (λ (x : List Bool → ℤ). Some (restricted x (nat_abs i) (is_true b) bits)) (at_same p f)) refl

-- quantification
abbrev pub over_one : Package → Func → List Value → List Meant
over_one p f vs = Function (meaning p f) ∷ meanings p vs

pub exists_calls : (p q : Package) (f r : Func) (vs : List Value) → HasValues q r f.head.level (λ bits. Some (some_setting (value_in p f) (places_of vs) bits)) → IsFlatFunction (meaning q r)
    → Calls Exists (over_one p f vs) q r
exists_calls p q f r vs v flat =
    job_calls Exists (over_one p f vs) q r f.head.level _ v flat refl
    (λ bits. ap (λ (x : List Bool → ℤ). Some (some_setting x (places_of vs) bits)) (at_same p f) ∙ ap (λ vars. Some (some_setting (at (meaning p f)) vars bits)) (sym (places_are p vs)))
    (none_behind Exists refl [] (over_one p f vs))

pub forall_calls : (p q : Package) (f r : Func) (vs : List Value) → HasValues q r f.head.level (λ bits. Some (every_setting (value_in p f) (places_of vs) bits)) → IsFlatFunction (meaning q r)
    → Calls Forall (over_one p f vs) q r
forall_calls p q f r vs v flat =
    job_calls Forall (over_one p f vs) q r f.head.level _ v flat refl
    (λ bits. ap (λ (x : List Bool → ℤ). Some (every_setting x (places_of vs) bits)) (at_same p f) ∙ ap (λ vars. Some (every_setting (at (meaning p f)) vars bits)) (sym (places_are p vs)))
    (none_behind Forall refl [] (over_one p f vs))

-- composition
pub compose_calls : (p q : Package) (f g r : Func) (i : ℤ) → HasValues q r f.head.level (λ bits. Some (composed (value_in p f) (nat_abs i) (value_in p g) bits)) → IsFlatFunction (meaning q r)
    → Calls Compose (Function (meaning p f) ∷ Position i ∷ Function (meaning p g) ∷ []) q r
compose_calls p q f g r i v flat =
    job_calls Compose (Function (meaning p f) ∷ Position i ∷ Function (meaning p g) ∷ []) q r f.head.level _ v flat refl
    (λ bits. ap (λ (x : List Bool → ℤ). Some (composed x (nat_abs i) (value_in p g) bits)) (at_same p f) ∙ ap (λ (y : List Bool → ℤ). Some (composed (at (meaning p f)) (nat_abs i) y bits)) (at_same p g)) refl

-- a quantified product
abbrev pub over_two : Package → Func → Func → List Value → List Meant
over_two p f g vs = Function (meaning p f) ∷ Function (meaning p g) ∷ meanings p vs

pub joined_calls : (p q : Package) (f g r : Func) (vs : List Value) → HasValues q r f.head.level (λ bits. Some (some_setting (both (value_in p f) (value_in p g)) (places_of vs) bits))
    → IsFlatFunction (meaning q r) → Calls AndExists (over_two p f g vs) q r
joined_calls p q f g r vs v flat =
    job_calls AndExists (over_two p f g vs) q r f.head.level _ v flat refl
    (λ bits. ap (λ (x : List Bool → ℤ). Some (some_setting (both x (value_in p g)) (places_of vs) bits)) (at_same p f)
    ∙ ap (λ (y : List Bool → ℤ). Some (some_setting (both (at (meaning p f)) y) (places_of vs) bits)) (at_same p g)
    ∙ ap (λ vars. Some (some_setting (both (at (meaning p f)) (at (meaning p g))) vars bits)) (sym (places_are p vs)))
    (none_behind AndExists refl [] (over_two p f g vs))

-- sums
abbrev numbers_of : List Value → List ℤ
numbers_of [] = []
numbers_of (value.Position i ∷ vs) = i ∷ numbers_of vs
numbers_of (other ∷ vs) = numbers_of vs

numbers_are : (vs : List Value) → map nat_abs (numbers_of vs) ≡ places_of vs
numbers_are [] = refl
numbers_are (value.Function f ∷ vs) = numbers_are vs
numbers_are (value.Position i ∷ vs) = ap (λ l. nat_abs i ∷ l) (numbers_are vs)
numbers_are (value.Number n ∷ vs) = numbers_are vs

as_places : (p : Package) (vs : List Value) → AreOf [] (Some AVariable) vs → meanings p vs ≡ at_places (numbers_of vs)
as_places p [] h = refl
as_places p (value.Function f ∷ vs) h = absurd h.0
as_places p (value.Position i ∷ vs) h = ap (λ l. Position i ∷ l) (as_places p vs h.1)
as_places p (value.Number n ∷ vs) h = absurd h.0

sums_are : (p : Package) (f : Func) (vars : List ℕ) → over_all Plus (some_value p f) vars ≡ over_all Plus (λ bits. Some (at (meaning p f) bits)) vars
sums_are p f vars = ap (λ (x : List Bool → ℤ). over_all Plus (λ bits. Some (x bits)) vars) (at_same p f)

some_other : {A : Type 0} (o : Option A) (x : A) → Some x ≡ o → o ≡ None → ⊥
some_other o x e n = cc

pub sum_calls : (p q : Package) (f r : Func) (vs : List Value) → IsFlatFunction (meaning p f) → AreOf [] (Some AVariable) vs → HasValues q r f.head.level (over_all Plus (some_value p f) (places_of vs))
    → IsFlatFunction (meaning q r) → Calls SumOut (over_one p f vs) q r
sum_calls p q f r vs flat_f kinds v flat =
    job_calls SumOut (over_one p f vs) q r f.head.level _ v flat refl
    (λ bits. ap (λ (w : List Bool → Option ℤ). w bits) (sums_are p f (places_of vs)) ∙ ap (λ vars. over_all Plus (λ b. Some (at (meaning p f) b)) vars bits) (sym (places_are p vs)))
    (ap (λ l. first_failure (steps_behind SumOut [] (Function (meaning p f) ∷ l))) (as_places p vs kinds)
    ∙ none_steps (meaning p f) flat_f (numbers_of vs)
    (λ bits a n. some_other (over_all Plus (some_value p f) (places_of vs) bits) (at (meaning q r) bits)
    (sym (has_value (meaning q r) flat bits (subst (λ (k : ℕ). IsAssignment k bits) (sym v.level) a)) ∙ v.values bits a)
    (ap (λ (w : List Bool → Option ℤ). w bits) (sums_are p f (places_of vs)) ∙ ap (λ vars. over_all Plus (λ b. Some (at (meaning p f) b)) vars bits) (sym (numbers_are vs)) ∙ n)))

pub sum_fails : (p : Package) (f : Func) (vs : List Value) → IsFlatFunction (meaning p f) → AreOf [] (Some AVariable) vs → (fault : StepFault)
    → IsFault (IsFirstFailing f.head.level Plus (some_value p f) (places_of vs)) fault → IsFault (λ bits. first_failure (call_parts SumOut (over_one p f vs)) ≡ Some bits) fault
sum_fails p f vs flat kinds =
    fault_turned (IsFirstFailing f.head.level Plus (some_value p f) (places_of vs)) (λ bits. first_failure (call_parts SumOut (over_one p f vs)) ≡ Some bits)
    (λ bits h. ap (λ l. first_failure (call_parts SumOut (Function (meaning p f) ∷ l))) (as_places p vs kinds)
    ∙ first_step (meaning p f) flat (numbers_of vs) bits
    (subst (λ vars. IsFirstFailing f.head.level Plus (λ b. Some (at (meaning p f) b)) vars bits) (sym (numbers_are vs))
    (subst (λ (x : List Bool → ℤ). IsFirstFailing f.head.level Plus (λ b. Some (x b)) (places_of vs) bits) (at_same p f) h)))

-- the variables of a call that isn't refused are the level's
all_within : (l : ℕ) (p : Package) (vs : List Value) → list_all (λ i. is_below i (2 ^ l)) (positions (meanings p vs)) ≡ true → All (λ i. i < 2 ^ l) (places_of vs)
all_within l p [] h = All-nil _
all_within l p (value.Function f ∷ vs) h = all_within l p vs h
all_within l p (value.Position i ∷ vs) h =
    All-cons (λ j. j < 2 ^ l) (nat_abs i) (places_of vs) (below_is i (2 ^ l) (left (is_below i (2 ^ l)) _ h)) (all_within l p vs (right (is_below i (2 ^ l)) _ h))
all_within l p (value.Number n ∷ vs) h = all_within l p vs h

pub variables_within : (head : Head) (p : Package) (f : Func) (vs : List Value) → call_refusal head (over_one p f vs) ≡ None → All (λ i. i < 2 ^ f.head.level) (places_of vs)
variables_within head p f vs h = all_within f.head.level p vs (ruled head (over_one p f vs) h).inside
