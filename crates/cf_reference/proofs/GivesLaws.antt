-- How the function of an expression comes from those of its arguments, and where it fails.
use Rattle.std.proofs.Common.{ℕ, ℤ, ◌≡◌, ◌^◌, Bool, List, [], ◌∷◌, ◌++◌, Option, Some, None, refl, ap, sym, ◌∙◌}
use Rattle.std.specs.Prelude.{nat_abs, unwrap_or}
use Rattle.cf_model.specs.Assignments.{bit_at}
use Rattle.cf_model.specs.Values.{Fits, fitting, and_then}
use Rattle.cf_model.specs.FlatFunctions.{IsAssignment, IsLeast, FlatFunction, IsFlatFunction, value_at}
use Rattle.cf_model.specs.Terms.{joined, folded_on, truth}
use Rattle.cf_model.specs.declared.terms.Word2.{Word2}
use Rattle.cf_model.proofs.TermLaws.{fitting-fits}
use Rattle.cf_reference.specs.declared.grammar.Head.{Head}
use Rattle.cf_reference.specs.declared.grammar.Head.TheVariants.{Fold}
use Rattle.cf_reference.specs.Trees.{Tree, Num, At, Named}
use Rattle.cf_reference.specs.States.{State, level_in, named, nothing, at}
use Rattle.cf_reference.specs.Calls.{Part, Meant, Function, Position, Number, values, exact, call}
use Rattle.cf_reference.specs.Expressions.{part}
use Rattle.cf_reference.specs.Failures.{failure}
use Rattle.cf_reference.specs.Gives.{Gives, GivesTree}
use Rattle.cf_reference.specs.Carrying.{function_from}
use Rattle.cf_reference.proofs.ExpressionLaws.{level-Num, level-At, level-Named, value-Num, value-At, value-Named}
use Rattle.cf_reference.proofs.FailureLaws.{HasValues, failure-never, failure-is, least-same}
use Rattle.cf_reference.proofs.StateLaws.{flat-fits}
use Rattle.cf_reference.proofs.TestFacts.{some_none}
use Rattle.cf_reference.proofs.ValueLaws.{has_value, is_function_from}

at_level : (j k : ℕ) (bits : List Bool) → j ≡ k → IsAssignment j bits → IsAssignment k bits
at_level j k bits e a = a ∙ ap (λ (n : ℕ). 2 ^ n) e

-- a subexpression that has a flat function fails nowhere
pub gives-values : (part : Part) (f : FlatFunction) → Gives part f → HasValues part
gives-values part f g bits a =
    let b = at_level part.level f.level bits (sym g.level) a in
    (at f bits, sym (g.values bits b) ∙ has_value f g.flat bits b)

pub gives-never : (part : Part) (f : FlatFunction) → Gives part f → failure part ≡ None
gives-never part f g = failure-never part (gives-values part f g)

-- a number, a position, a name
pub gives-Num : (s : State) (n : ℤ) (f : FlatFunction) → IsFlatFunction f → f.level ≡ level_in s
    → ((bits : List Bool) → IsAssignment f.level bits → value_at f bits ≡ Some n) → GivesTree s (Num n) f
gives-Num s n f flat l v =
    record { flat = flat; level = l ∙ sym (level-Num s n); values = λ bits a. v bits a ∙ sym (value-Num s n bits) }

pub gives-At : (s : State) (i : ℤ) (f : FlatFunction) → IsFlatFunction f → f.level ≡ level_in s
    → ((bits : List Bool) → IsAssignment f.level bits → value_at f bits ≡ Some (truth (bit_at bits (nat_abs i)))) → GivesTree s (At i) f
gives-At s i f flat l v =
    record { flat = flat; level = l ∙ sym (level-At s i); values = λ bits a. v bits a ∙ sym (value-At s i bits) }

pub gives-Named : (s : State) (name : List ℕ) (f : FlatFunction) → IsFlatFunction f → named s name ≡ Some f
    → GivesTree s (Named name) f
gives-Named s name f flat e = record {
  flat = flat;
  level = sym (level-Named s name ∙ ap (λ (o : Option FlatFunction). (unwrap_or o nothing).level) e);
  values = λ bits a. sym (value-Named s name bits ∙ ap (λ o. and_then o (λ g. value_at g bits)) e);
}

-- A flat function with the exact values of a call is the call's.
pub gives-call : (head : Head) (args : List Meant) (f : FlatFunction) → IsFlatFunction f → f.level ≡ (exact head args).level
    → ((bits : List Bool) → IsAssignment f.level bits → value_at f bits ≡ (exact head args).value bits) → Gives (call head args) f
gives-call head args f flat l v = record {
  flat = flat;
  level = l;
  values = λ bits a.
      (let got = has_value f flat bits a in
      got
      ∙ sym (fitting-fits (at f bits) (flat-fits f bits flat (at f bits) got))
      ∙ ap (λ o. and_then o fitting) (sym got ∙ v bits a));
}

-- the exact values of a call fit, where there are any
abbrev pub AllFit : Part → Type 0
AllFit p = (bits : List Bool) (v : ℤ) → IsAssignment p.level bits → p.value bits ≡ Some v → Fits v

-- It fails where no exact value is there.
pub fails-call : (head : Head) (args : List Meant) (bits : List Bool) → AllFit (exact head args)
    → IsLeast (exact head args).level (λ a. (exact head args).value a ≡ None) bits → failure (call head args) ≡ Some bits
fails-call head args bits fit h =
    failure-is (call head args) bits
    (least-same (exact head args).level (λ a. (exact head args).value a ≡ None) (λ a. (call head args).value a ≡ None) bits
    (λ a is n. ap (λ o. and_then o fitting) n) (λ a is n. by a is ((exact head args).value a) refl n) h)
  where
    by : (a : List Bool) → IsAssignment (exact head args).level a → (o : Option ℤ) → (exact head args).value a ≡ o
        → and_then o fitting ≡ None → (exact head args).value a ≡ None
    by a is None e n = e
    by a is (Some v) e n = absurd (some_none v (sym (fitting-fits v (fit a v is e)) ∙ n))

-- one more function of a fold
values-append : (first later : List Meant) (bits : List Bool)
    → values (first ++ later) bits ≡ values first bits ++ values later bits
values-append [] later bits = refl
values-append (Function f ∷ first) later bits = ap (λ l. Some (at f bits) ∷ l) (values-append first later bits)
values-append (Position i ∷ first) later bits = values-append first later bits
values-append (Number n ∷ first) later bits = values-append first later bits

folded_on-append : (word : Word2) (a : Option ℤ) (xs ys : List (Option ℤ)) → folded_on word a (xs ++ ys) ≡ folded_on word (folded_on word a xs) ys
folded_on-append word a [] ys = refl
folded_on-append word a (x ∷ xs) ys = folded_on-append word (joined word a x) xs ys

pub fold-step : (word : Word2) (f : FlatFunction) (later : List Meant) (g : FlatFunction) (bits : List Bool)
    → (exact (Fold word) (Function f ∷ later ++ Function g ∷ [])).value bits ≡ joined word ((exact (Fold word) (Function f ∷ later)).value bits) (Some (at g bits))
fold-step word f later g bits =
    ap (folded_on word (Some (at f bits))) (values-append later (Function g ∷ []) bits)
    ∙ folded_on-append word (Some (at f bits)) (values later bits) (Some (at g bits) ∷ [])

-- The function of an expression is the one that a `let` binds.
pub gives-let : (s : State) (e : Tree) (f : FlatFunction) → GivesTree s e f → f ≡ function_from s e
gives-let s e f g = is_function_from s e f g.flat g.level g.values
