-- What the jobs of a package give, as calls.
use Rattle.std.proofs.Common.{ℕ, ℤ, zero, suc, pos, ◌≡◌, ◌==◌, Bool, true, List, [], ◌∷◌, length, Option, Some, None, refl, sym, ap, subst, ◌∙◌, arith}
use Rattle.std.specs.Prelude.{nat_abs, unwrap_or, slice_get, slice_index_or as get_or}
use Rattle.std.proofs.lemmas.Option.{none-some}
use Rattle.cf_model.specs.Assignments.{number_of}
use Rattle.cf_model.specs.Terms.{value1, joined, chosen}
use Rattle.cf_model.specs.FlatFunctions.{FlatFunction, IsFlatFunction, IsAssignment, IsLeast, value_at, tabulated}
use Rattle.cf_model.specs.Values.{Fits}
use Rattle.cf_model.specs.declared.terms.Word1.{Word1}
use Rattle.cf_model.specs.declared.terms.Word2.{Word2}
use Rattle.cf_model.specs.declared.terms.Word2.TheVariants.{And, Or, Xor, Plus, Minus, Times, Min, Max, Eq, Lt}
use Rattle.cf_model.proofs.FlatFunctionLaws.{tabulated-value}
use Rattle.cf_ops.specs.Operations.{of_one, of_two, of_three}
use Rattle.cf_ops.proofs.TermFacts.{term-of_one, term-of_two, term-of_three}
use Rattle.cf_pkg.specs.declared.Func.{Func}
use Rattle.cf_pkg.specs.Packages.{Package, Means, meaning}
use Rattle.cf_pkg.specs.Jobs.{HasValues, IsLeastWithout, value_in, map_value, apply_value, ternary_value}
use Rattle.cf_reference.specs.declared.grammar.Head.{Head}
use Rattle.cf_reference.specs.declared.grammar.Head.TheVariants.{Const, One, Fold, Ite}
use Rattle.cf_reference.specs.Heads.{signature}
use Rattle.cf_reference.specs.declared.grammar.Kind.{Kind}
use Rattle.cf_reference.specs.declared.grammar.Kind.TheVariants.{Expression as AnExpression}
use Rattle.cf_reference.specs.States.{at}
use Rattle.cf_reference.specs.Calls.{Meant, Function, Number, exact, call_refusal}
use Rattle.cf_reference.specs.Failures.{first_failure}
use Rattle.cf_reference.proofs.FailureLaws.{least-same}
use Rattle.cf_reference.proofs.FitLaws.{value1_fits, value2_fits}
use Rattle.cf_reference.proofs.GivesLaws.{gives-call, fails-call, AllFit}
use Rattle.cf_reference.proofs.StateLaws.{flat-fits}
use Rattle.cf_reference.proofs.TestFacts.{left}
use Rattle.cf_reference.proofs.WalkLaws.{ruled}
use Rattle.cf_reference.proofs.ValueLaws.{has_value}
use Rattle.cf_session.specs.declared.faults.StepFault.{StepFault}
use Rattle.cf_session.specs.Building.{IsFault}
use Rattle.cf_session.specs.declared.values.Value.{Value}
use Rattle.cf_session.specs.Values.{AreOf, meanings, steps_behind, call_parts, Calls}
use Rattle.cf_session.proofs.HeadFacts.{last_fails}
use Rattle.cf_session.proofs.Built.{fault_turned, same_level}

-- the value of a function as a list and as a number
get-unwrapped : (xs : List ℤ) (i : ℕ) (d : ℤ) → unwrap_or (slice_get xs i) d ≡ get_or xs i d
get-unwrapped [] i d = refl
get-unwrapped (x ∷ xs) zero d = refl
get-unwrapped (x ∷ xs) (suc i) d = get-unwrapped xs i d

pub at-value : (p : Package) (f : Func) (bits : List Bool) → value_in p f bits ≡ at (meaning p f) bits
at-value p f bits = sym (get-unwrapped (meaning p f).values (number_of bits) (pos 0))

-- A function with the values of a job is a call's where the job has its exact values.
pub job_calls : (head : Head) (args : List Meant) (q : Package) (r : Func) (l : ℕ) (value : List Bool → Option ℤ) → HasValues q r l value → IsFlatFunction (meaning q r) → l ≡ (exact head args).level
    → ((bits : List Bool) → value bits ≡ (exact head args).value bits) → first_failure (steps_behind head [] args) ≡ None → Calls head args q r
job_calls head args q r l value v flat is same fits = record {
  owned = v.owned;
  gives = gives-call head args (meaning q r) flat (v.level ∙ is)
      (λ bits a. v.values bits (subst (λ (k : ℕ). IsAssignment k bits) v.level a) ∙ same bits);
  fits = fits;
}

-- Where the job has no value, the call has none, if its exact values fit.
pub job_fails : (head : Head) (args : List Meant) (l : ℕ) (value : List Bool → Option ℤ) → l ≡ (exact head args).level → ((bits : List Bool) → value bits ≡ (exact head args).value bits)
    → AllFit (exact head args) → first_failure (steps_behind head [] args) ≡ None → (fault : StepFault) → IsFault (IsLeastWithout l value) fault
    → IsFault (λ bits. first_failure (call_parts head args) ≡ Some bits) fault
job_fails head args l value is same fit none =
    fault_turned (IsLeastWithout l value) (λ bits. first_failure (call_parts head args) ≡ Some bits)
    (λ bits least. last_fails head args bits none (fails-call head args bits fit
    (subst (λ (k : ℕ). IsLeast k (λ a. (exact head args).value a ≡ None) bits) is
    (least-same l (λ a. value a ≡ None) (λ a. (exact head args).value a ≡ None) bits (λ a assigns n. sym (same a) ∙ n) (λ a assigns n. same a ∙ n) least))))

-- const
pub const_calls : (q : Package) (r : Func) (k : ℕ) (j n m : ℤ) → k ≡ nat_abs j → m ≡ n → Means q r (tabulated k (λ bits. m)) → IsFlatFunction (meaning q r)
    → Calls Const (Number j ∷ Number n ∷ []) q r
const_calls q r k j n m is same means flat =
    let l : (meaning q r).level ≡ k = ap (λ (g : FlatFunction). g.level) means.is_it in
    record {
      owned = means.owned;
      gives = gives-call Const (Number j ∷ Number n ∷ []) (meaning q r) flat (l ∙ is)
          (λ bits a. ap (λ (g : FlatFunction). value_at g bits) means.is_it ∙ tabulated-value k (λ b. m) bits (subst (λ (i : ℕ). IsAssignment i bits) l a) ∙ ap Some same);
      fits = refl;
    }

-- an operation on one function
map_is : (word : Word1) (p : Package) (f : Func) (bits : List Bool) → map_value p (of_one word) f bits ≡ value1 word (at (meaning p f) bits)
map_is word p f bits = term-of_one word (value_in p f bits) (pos 0) (pos 0) ∙ ap (value1 word) (at-value p f bits)

pub one_calls : (word : Word1) (p q : Package) (f r : Func) → HasValues q r f.head.level (map_value p (of_one word) f) → IsFlatFunction (meaning q r)
    → Calls (One word) (Function (meaning p f) ∷ []) q r
one_calls word p q f r v flat = job_calls (One word) (Function (meaning p f) ∷ []) q r f.head.level (map_value p (of_one word) f) v flat refl (map_is word p f) refl

pub one_fails : (word : Word1) (p : Package) (f : Func) (fault : StepFault) → IsFault (IsLeastWithout f.head.level (map_value p (of_one word) f)) fault
    → IsFault (λ bits. first_failure (call_parts (One word) (Function (meaning p f) ∷ [])) ≡ Some bits) fault
one_fails word p f = job_fails (One word) (Function (meaning p f) ∷ []) f.head.level (map_value p (of_one word) f) refl (map_is word p f) (λ bits v a e. value1_fits word (at (meaning p f) bits) v e) refl

-- an operation on two functions
abbrev pub two : Package → Func → Func → List Meant
two p f g = Function (meaning p f) ∷ Function (meaning p g) ∷ []

apply_is : (word : Word2) (p : Package) (f g : Func) (bits : List Bool) → apply_value p (of_two word) f g bits ≡ (exact (Fold word) (two p f g)).value bits
apply_is word p f g bits =
    term-of_two word (value_in p f bits) (value_in p g bits) (pos 0)
    ∙ ap (λ x. joined word (Some x) (Some (value_in p g bits))) (at-value p f bits)
    ∙ ap (λ y. joined word (Some (at (meaning p f) bits)) (Some y)) (at-value p g bits)

pub fold_calls : (word : Word2) (p q : Package) (f g r : Func) → HasValues q r f.head.level (apply_value p (of_two word) f g) → IsFlatFunction (meaning q r)
    → Calls (Fold word) (two p f g) q r
fold_calls word p q f g r v flat = job_calls (Fold word) (two p f g) q r f.head.level (apply_value p (of_two word) f g) v flat refl (apply_is word p f g) refl

pub fold_fails : (word : Word2) (p : Package) (f g : Func) → IsFlatFunction (meaning p f) → IsFlatFunction (meaning p g) → f.head.level ≡ g.head.level → (fault : StepFault)
    → IsFault (IsLeastWithout f.head.level (apply_value p (of_two word) f g)) fault → IsFault (λ bits. first_failure (call_parts (Fold word) (two p f g)) ≡ Some bits) fault
fold_fails word p f g flat_f flat_g same =
    job_fails (Fold word) (two p f g) f.head.level (apply_value p (of_two word) f g) refl (apply_is word p f g)
    (λ bits v a e. value2_fits word (at (meaning p f) bits) (at (meaning p g) bits) v (in_range f flat_f bits a) (in_range g flat_g bits (subst (λ (k : ℕ). IsAssignment k bits) same a)) e) refl
  where
    in_range : (h : Func) → IsFlatFunction (meaning p h) → (bits : List Bool) → IsAssignment h.head.level bits → Fits (at (meaning p h) bits)
    in_range h flat bits a = flat-fits (meaning p h) bits flat (at (meaning p h) bits) (has_value (meaning p h) flat bits a)

pub two_level : (word : Word2) (p : Package) (f g : Func) → call_refusal (Fold word) (two p f g) ≡ None → f.head.level ≡ g.head.level
two_level word p f g h =
    let equal = (ruled (Fold word) (two p f g) h).equal in
    sym (same_level g.head.level f.head.level (left (g.head.level == f.head.level) true equal))

-- a fold's two arguments
pub two_kinds : (word : Word2) (args : List Value) → AreOf (signature (Fold word)).first (signature (Fold word)).further args → length args ≡ 2
    → AreOf (AnExpression ∷ AnExpression ∷ []) None args
two_kinds word args h n = by args n (first_two word args h)
  where
    first_two : (word : Word2) (args : List Value) → AreOf (signature (Fold word)).first (signature (Fold word)).further args
        → (further : Option Kind) × AreOf (AnExpression ∷ AnExpression ∷ []) further args
    first_two And args h = (Some AnExpression, h)
    first_two Or args h = (Some AnExpression, h)
    first_two Xor args h = (Some AnExpression, h)
    first_two Plus args h = (Some AnExpression, h)
    first_two Minus args h = (None, h)
    first_two Times args h = (Some AnExpression, h)
    first_two Min args h = (Some AnExpression, h)
    first_two Max args h = (Some AnExpression, h)
    first_two Eq args h = (None, h)
    first_two Lt args h = (None, h)

    by : (args : List Value) → length args ≡ 2 → (further : Option Kind) × AreOf (AnExpression ∷ AnExpression ∷ []) further args → AreOf (AnExpression ∷ AnExpression ∷ []) None args
    by [] n h = absurd (omega (arith, n))
    by (v ∷ []) n h = absurd (omega (arith, n))
    by (v ∷ w ∷ []) n h = (h.1.0, (h.1.1.0, tt))
    by (v ∷ w ∷ x ∷ args) n h = absurd (omega (arith, n))

-- a choice
abbrev pub three : Package → Func → Func → Func → List Meant
three p f g h = Function (meaning p f) ∷ Function (meaning p g) ∷ Function (meaning p h) ∷ []

choice_is : (p : Package) (f g h : Func) (bits : List Bool) → ternary_value p of_three f g h bits ≡ (exact Ite (three p f g h)).value bits
choice_is p f g h bits =
    term-of_three (value_in p f bits) (value_in p g bits) (value_in p h bits)
    ∙ ap (λ x. chosen (Some x) (Some (value_in p g bits)) (Some (value_in p h bits))) (at-value p f bits)
    ∙ ap (λ y. chosen (Some (at (meaning p f) bits)) (Some y) (Some (value_in p h bits))) (at-value p g bits)
    ∙ ap (λ z. chosen (Some (at (meaning p f) bits)) (Some (at (meaning p g) bits)) (Some z)) (at-value p h bits)

pub choice_calls : (p q : Package) (f g h r : Func) → HasValues q r f.head.level (ternary_value p of_three f g h) → IsFlatFunction (meaning q r) → Calls Ite (three p f g h) q r
choice_calls p q f g h r v flat = job_calls Ite (three p f g h) q r f.head.level (ternary_value p of_three f g h) v flat refl (choice_is p f g h) refl

pub choice_fails : (p : Package) (f g h : Func) (fault : StepFault) → IsFault (IsLeastWithout f.head.level (ternary_value p of_three f g h)) fault
    → IsFault (λ bits. first_failure (call_parts Ite (three p f g h)) ≡ Some bits) fault
choice_fails p f g h =
    fault_turned (IsLeastWithout f.head.level (ternary_value p of_three f g h)) (λ bits. first_failure (call_parts Ite (three p f g h)) ≡ Some bits)
    (λ bits least. absurd (none-some _ (sym least.has ∙ choice_is p f g h bits)))

-- what was found of other names of the head and the values
pub calls_told : (head one : Head) (items others : List Value) (p q : Package) (r : Func) → head ≡ one → items ≡ others
    → Calls one (meanings p others) q r → Calls head (meanings p items) q r
calls_told head one items others p q r is same h =
    subst (λ (d : Head). Calls d (meanings p items) q r) (sym is) (subst (λ (l : List Value). Calls one (meanings p l) q r) (sym same) h)

pub fault_told : (head one : Head) (items others : List Value) (p : Package) (fault : StepFault) → head ≡ one → items ≡ others
    → IsFault (λ bits. first_failure (call_parts one (meanings p others)) ≡ Some bits) fault → IsFault (λ bits. first_failure (call_parts head (meanings p items)) ≡ Some bits) fault
fault_told head one items others p fault is same h =
    subst (λ (d : Head). IsFault (λ bits. first_failure (call_parts d (meanings p items)) ≡ Some bits) fault) (sym is)
    (subst (λ (l : List Value). IsFault (λ bits. first_failure (call_parts one (meanings p l)) ≡ Some bits) fault) (sym same) h)
