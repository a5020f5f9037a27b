-- Heads that are folds, and the steps of those that aren't.
use Rattle.std.proofs.Common.{ℕ, zero, suc, ◌≡◌, ◌&&◌, cond, Bool, true, false, List, [], ◌∷◌, ◌++◌, length, Option, Some, None, refl, ap, sym, ◌∙◌, arith, append_assoc}
use Rattle.std.specs.Prelude.{nat_le}
use Rattle.std.specs.Option.{option_or}
use Rattle.std.proofs.lemmas.Bool.{false≢true}
use Rattle.cf_model.specs.declared.terms.Word2.{Word2}
use Rattle.cf_reference.specs.declared.grammar.Head.{Head}
use Rattle.cf_reference.specs.declared.grammar.Head.TheVariants.{Const, One, Fold, Ite, Restrict, Exists, Forall, SumOut, Compose, AndExists, Kron, Matmul, Transpose, Id, Walsh, Unit as UnitAt}
use Rattle.cf_reference.specs.declared.grammar.Kind.TheVariants.{Expression as AnExpression}
use Rattle.cf_reference.specs.Heads.{kind_at}
use Rattle.cf_reference.specs.Calls.{Meant, call, is_nested}
use Rattle.cf_reference.specs.Failures.{failure, first_failure, fold_step}
use Rattle.cf_reference.proofs.FailureLaws.{first_failure-append}
use Rattle.cf_session.specs.Arguments.{is_fold}
use Rattle.cf_session.specs.Values.{steps_behind, call_parts}
use Rattle.cf_session.proofs.Built.{or_nones, or_second}
use Rattle.cf_session.proofs.WalkFacts.{append-none}

pub fold_of : (head : Head) → is_fold head ≡ true → (word : Word2) × (head ≡ Fold word)
fold_of Const n = absurd (false≢true n)
fold_of (One word) n = absurd (false≢true n)
fold_of (Fold word) n = (word, refl)
fold_of Ite n = absurd (false≢true n)
fold_of Restrict n = absurd (false≢true n)
fold_of Exists n = absurd (false≢true n)
fold_of Forall n = absurd (false≢true n)
fold_of SumOut n = absurd (false≢true n)
fold_of Compose n = absurd (false≢true n)
fold_of AndExists n = absurd (false≢true n)
fold_of Kron n = absurd (false≢true n)
fold_of Matmul n = absurd (false≢true n)
fold_of Transpose n = absurd (false≢true n)
fold_of Id n = absurd (false≢true n)
fold_of Walsh n = absurd (false≢true n)
fold_of UnitAt n = absurd (false≢true n)

pub fold_nests : (head : Head) → is_fold head ≡ true → is_nested head ≡ true
fold_nests head n = ap is_nested (fold_of head n).1

-- no step of a head that isn't nested calls overflows
pub unnested : (head : Head) (done : List Meant) → is_nested head ≡ false → first_failure (fold_step head done) ≡ None
unnested head done e =
    ap (λ b. first_failure (cond (b && nat_le 2 (length done)) (call head done ∷ []) [])) e

pub none_behind : (head : Head) → is_nested head ≡ false → (done args : List Meant) → first_failure (steps_behind head done args) ≡ None
none_behind head e done [] = refl
none_behind head e done (m ∷ later) =
    first_failure-append (fold_step head done) (steps_behind head (done ++ m ∷ []) later)
    ∙ or_nones (first_failure (fold_step head done)) _ (unnested head done e) (none_behind head e (done ++ m ∷ []) later)

-- one more argument
pub steps_more : (head : Head) (done args : List Meant) (m : Meant) → steps_behind head done (args ++ m ∷ []) ≡ steps_behind head done args ++ fold_step head (done ++ args)
steps_more head done [] m = append-none (fold_step head done) ∙ ap (fold_step head) (sym (append-none done))
steps_more head done (x ∷ args) m =
    ap (λ l. fold_step head done ++ l) (steps_more head (done ++ x ∷ []) args m)
    ∙ ap (λ d. fold_step head done ++ (steps_behind head (done ++ x ∷ []) args ++ fold_step head d)) (append_assoc done (x ∷ []) args)
    ∙ sym (append_assoc (fold_step head done) (steps_behind head (done ++ x ∷ []) args) (fold_step head (done ++ x ∷ args)))

pub or_assoc : {A : Type 0} (a b c : Option A) → option_or (option_or a b) c ≡ option_or a (option_or b c)
or_assoc None b c = refl
or_assoc (Some x) b c = refl

pub or_none : {A : Type 0} (a : Option A) → option_or a None ≡ a
or_none None = refl
or_none (Some x) = refl

pub more_behind : (head : Head) (args : List Meant) (m : Meant) (rest : Option (List Bool)) → option_or (first_failure (steps_behind head [] args)) (option_or (first_failure (fold_step head args)) rest)
    ≡ option_or (first_failure (steps_behind head [] (args ++ m ∷ []))) rest
more_behind head args m rest =
    sym (or_assoc (first_failure (steps_behind head [] args)) (first_failure (fold_step head args)) rest)
    ∙ ap (λ o. option_or o rest) (sym (first_failure-append (steps_behind head [] args) (fold_step head args)) ∙ ap first_failure (sym (steps_more head [] args m)))

-- the steps, and then the call
pub parts_are : (head : Head) (args : List Meant) → first_failure (call_parts head args) ≡ option_or (first_failure (steps_behind head [] args)) (failure (call head args))
parts_are head args =
    first_failure-append (steps_behind head [] args) (call head args ∷ [])
    ∙ ap (option_or (first_failure (steps_behind head [] args))) (or_none (failure (call head args)))

pub last_fails : (head : Head) (args : List Meant) (bits : List Bool) → first_failure (steps_behind head [] args) ≡ None → failure (call head args) ≡ Some bits
    → first_failure (call_parts head args) ≡ Some bits
last_fails head args bits none fails = parts_are head args ∙ or_second (first_failure (steps_behind head [] args)) (failure (call head args)) (Some bits) none fails

-- A fold of two has no step.
pub pair_parts : (head : Head) → is_fold head ≡ true → (a b : Meant) → first_failure (call_parts head (a ∷ b ∷ [])) ≡ failure (call head (a ∷ b ∷ []))
pair_parts head n a b =
    ap (λ (h : Head). first_failure (call_parts h (a ∷ b ∷ []))) (fold_of head n).1
    ∙ or_none (failure (call (Fold (fold_of head n).0) (a ∷ b ∷ [])))
    ∙ ap (λ (h : Head). failure (call h (a ∷ b ∷ []))) (sym (fold_of head n).1)

-- No step comes before the last expression of a call that is no fold.
abbrev None_yet : Head → List Meant → Type 0
None_yet head done = (first_failure (steps_behind head [] done) ≡ None) × (first_failure (fold_step head done) ≡ None)

none_of : (head : Head) → is_nested head ≡ false → (done : List Meant) → None_yet head done
none_of head e done = (none_behind head e [] done, unnested head done e)

no_variable : (place : ℕ) → kind_at SumOut (suc place) ≡ AnExpression → ⊥
no_variable zero e = cc
no_variable (suc place) e = cc

pub none_yet : (head : Head) → is_fold head ≡ false → (done : List Meant) (place : ℕ) → length done ≡ place → kind_at head place ≡ AnExpression → None_yet head done
none_yet Const n done place long e = none_of Const refl done
none_yet (One word) n done place long e = none_of (One word) refl done
none_yet (Fold word) n done place long e = absurd (false≢true (sym n))
none_yet Ite n done place long e = none_of Ite refl done
none_yet Restrict n done place long e = none_of Restrict refl done
none_yet Exists n done place long e = none_of Exists refl done
none_yet Forall n done place long e = none_of Forall refl done
none_yet SumOut n [] place long e = (refl, refl)
none_yet SumOut n (m ∷ done) zero long e = absurd (omega (arith, long))
none_yet SumOut n (m ∷ done) (suc place) long e = absurd (no_variable place e)
none_yet Compose n done place long e = none_of Compose refl done
none_yet AndExists n done place long e = none_of AndExists refl done
none_yet Kron n done place long e = none_of Kron refl done
none_yet Matmul n done place long e = none_of Matmul refl done
none_yet Transpose n done place long e = none_of Transpose refl done
none_yet Id n done place long e = none_of Id refl done
none_yet Walsh n done place long e = none_of Walsh refl done
none_yet UnitAt n done place long e = none_of UnitAt refl done
