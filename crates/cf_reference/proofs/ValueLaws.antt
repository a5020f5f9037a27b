-- An expression that overflows nowhere has a value everywhere, and what functions that have these values come to.
use Rattle.std.proofs.Common.{ℕ, ◌≡◌, ◌^◌, ◌<◌, pos, Bool, List, [], length, get_or, Option, Some, None, ap, sym, ◌∙◌, arith}
use Rattle.std.specs.Prelude.{slice_get, unwrap_or}
use Rattle.std.proofs.lemmas.Option.{slice_get-get_or}
use Rattle.cf_model.specs.Assignments.{number_of, bits_of}
use Rattle.cf_model.specs.Values.{and_then}
use Rattle.cf_model.specs.FlatFunctions.{IsAssignment, FlatFunction, IsFlatFunction, value_at, points}
use Rattle.cf_model.proofs.CanonLaws.{same_lists}
use Rattle.cf_model.proofs.FlatFunctionLaws.{number_in, place_assigns, tabulated-value, tabulated-full}
use Rattle.cf_reference.specs.Trees.{Tree, Num, At, Named, Call}
use Rattle.cf_reference.specs.States.{State, named, nothing, at}
use Rattle.cf_reference.specs.Expressions.{part, level, value}
use Rattle.cf_reference.specs.Failures.{failure, over, over_arguments}
use Rattle.cf_reference.specs.Carrying.{function_from}
use Rattle.cf_reference.proofs.TestFacts.{or_none_second}
use Rattle.cf_reference.proofs.ExpressionLaws.{value-Num, value-At, value-Named, level-Named}
use Rattle.cf_reference.proofs.FailureLaws.{HasValues, failure-none, failure-never, over-Named, over-Call}

-- Where no subexpression fails, the expression has a value at each assignment of its level.
pub over-none : (s : State) (e : Tree) → over s e ≡ None → HasValues (part s e)
over-none s (Num n) e bits a = (n, value-Num s n bits)
over-none s (At i) e bits a = (_, value-At s i bits)
over-none s (Named name) e bits a = failure-none (part s (Named name)) (sym (over-Named s name) ∙ e) bits a
over-none s (Call head es) e bits a =
    failure-none (part s (Call head es)) (or_none_second (over_arguments s head [] es) (failure (part s (Call head es))) (sym (over-Call s head es) ∙ e)) bits a

-- a flat function has a value at each assignment of its level
pub has_value : (f : FlatFunction) → IsFlatFunction f → (bits : List Bool) → IsAssignment f.level bits
    → value_at f bits ≡ Some (at f bits)
has_value f h bits a =
    let is : value_at f bits ≡ Some (get_or f.values (number_of bits) (pos 0)) = slice_get-get_or f.values (number_of bits) (pos 0) (omega (arith, number_in f.level bits a, h.full)) in
    is ∙ ap (λ o. Some (unwrap_or o (pos 0))) (sym is)

-- a name that stands for a flat function has values everywhere
pub over-Named-flat : (s : State) (name : List ℕ) (f : FlatFunction) → named s name ≡ Some f → IsFlatFunction f
    → over s (Named name) ≡ None
over-Named-flat s name f e flat =
    over-Named s name
    ∙ failure-never (part s (Named name)) (λ bits a. (
      at f bits,
      value-Named s name bits ∙ ap (λ o. and_then o (λ g. value_at g bits)) e
          ∙ has_value f flat bits (a ∙ ap (λ (k : ℕ). 2 ^ k) (level-Named s name ∙ ap (λ (o : Option FlatFunction). (unwrap_or o nothing).level) e)),
    ))

-- A flat function that has an expression's value at each assignment of its level is the one that a `let` binds.
pub is_function_from : (s : State) (e : Tree) (f : FlatFunction) → IsFlatFunction f → f.level ≡ level s e
    → ((bits : List Bool) → IsAssignment f.level bits → value_at f bits ≡ value s e bits) → f ≡ function_from s e
is_function_from s e f flat same values = cc_of (same_lists f.values (function_from s e).values len each)
  where
    len : length f.values ≡ length (function_from s e).values
    len = flat.full ∙ ap points same ∙ sym (tabulated-full (level s e) (λ bits. unwrap_or (value s e bits) (pos 0)))

    each : (i : ℕ) → i < length f.values → slice_get f.values i ≡ slice_get (function_from s e).values i
    each i h =
        let p = place_assigns f.level i (omega (arith, h, flat.full)) in
        let bits = bits_of (2 ^ f.level) i in
        let a : IsAssignment (level s e) bits = p.0 ∙ ap (λ (k : ℕ). 2 ^ k) same in
        let got : value_at f bits ≡ Some (unwrap_or (value s e bits) (pos 0)) = has_value f flat bits p.0 ∙ ap (λ o. Some (unwrap_or o (pos 0))) (values bits p.0) in
        ap (slice_get f.values) (sym p.1)
        ∙ got
        ∙ sym (tabulated-value (level s e) (λ b. unwrap_or (value s e b) (pos 0)) bits a)
        ∙ ap (slice_get (function_from s e).values) p.1

    cc_of : f.values ≡ (function_from s e).values → f ≡ function_from s e
    cc_of v = ap (λ l. record { level = l; values = f.values }) same ∙ ap (λ vs. record { level = level s e; values = vs }) v
