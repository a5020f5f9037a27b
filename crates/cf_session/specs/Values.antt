use Rattle.std.specs.Prelude.{◌≡◌, ℕ, nat_abs, List, [], ◌∷◌, ◌++◌, Option, Some, None}
use Rattle.cf_model.specs.FlatFunctions.{IsFlatFunction}
use Rattle.cf_reference.specs.declared.grammar.Head.{Head}
use Rattle.cf_reference.specs.declared.grammar.Kind.{Kind}
use Rattle.cf_reference.specs.declared.grammar.Kind.TheVariants.{Expression as AnExpression, Variable as AVariable, Natural as ANatural, Number as ANumber, Bit as ABit}
use Rattle.cf_reference.specs.Calls.{Part, Meant, Function, Position, Number, call}
use Rattle.cf_reference.specs.Failures.{first_failure, fold_step}
use Rattle.cf_reference.specs.Gives.{Gives}
use Rattle.cf_pkg.specs.declared.Func.{Func}
use Rattle.cf_pkg.specs.Packages.{Package, OwnsFunction, meaning}
use Rattle.cf_session.specs.declared.faults.StepFault.{StepFault}
use Rattle.cf_session.specs.Building.{IsFault}
use Rattle.cf_session.specs.declared.values.Value.{Value}
use Rattle.cf_session.specs.declared.values.Value.TheVariants as value

-- what values mean
abbrev pub meaning_of : Package → Value → Meant
meaning_of p (value.Function f) = Function (meaning p f)
meaning_of p (value.Position i) = Position i
meaning_of p (value.Number n) = Number n

abbrev pub meanings : Package → List Value → List Meant
meanings p [] = []
meanings p (v ∷ later) = meaning_of p v ∷ meanings p later

-- the variables among values, by their positions
abbrev pub places_of : List Value → List ℕ
places_of [] = []
places_of (value.Position i ∷ later) = nat_abs i ∷ places_of later
places_of (other ∷ later) = places_of later

-- The functions among them are the package's, and mean functions.
abbrev pub IsOwned : Package → Value → Type 0
IsOwned p (value.Function f) = OwnsFunction p f × IsFlatFunction (meaning p f)
IsOwned p other = Unit {0}

abbrev pub AreOwned : Package → List Value → Type 0
AreOwned p [] = Unit {0}
AreOwned p (v ∷ later) = IsOwned p v × AreOwned p later

-- a value is of a kind
abbrev pub IsOfKind : Kind → Value → Type 0
IsOfKind AnExpression (value.Function f) = Unit {0}
IsOfKind AVariable (value.Position i) = Unit {0}
IsOfKind ANatural (value.Number n) = Unit {0}
IsOfKind ANumber (value.Number n) = Unit {0}
IsOfKind ABit (value.Number n) = Unit {0}
IsOfKind kind v = ⊥

-- The values are one of each of these kinds, and any number of a further one, if there is one.
abbrev pub AreOf : List Kind → Option Kind → List Value → Type 0
AreOf [] None [] = Unit {0}
AreOf [] None (v ∷ later) = ⊥
AreOf [] (Some kind) [] = Unit {0}
AreOf [] (Some kind) (v ∷ later) = IsOfKind kind v × AreOf [] (Some kind) later
AreOf (kind ∷ kinds) further [] = ⊥
AreOf (kind ∷ kinds) further (v ∷ later) = IsOfKind kind v × AreOf kinds further later

-- the steps of nested calls on the way to the last argument, behind those that are done
abbrev pub steps_behind : Head → List Meant → List Meant → List Part
steps_behind head done [] = []
steps_behind head done (m ∷ later) = fold_step head done ++ steps_behind head (done ++ m ∷ []) later

-- what may overflow of a call: its steps, where it is nested calls, and then the call itself
abbrev pub call_parts : Head → List Meant → List Part
call_parts head args = steps_behind head [] args ++ call head args ∷ []

-- There was no memory, or the assignment is the one at which a call overflows.
abbrev pub IsFaultOfCall : Head → List Meant → StepFault → Type 0
IsFaultOfCall head args = IsFault (λ bits. first_failure (call_parts head args) ≡ Some bits)

-- The function is the package's. It has the values of a call, no step of which overflows.
pub record Calls (head : Head) (args : List Meant) (p : Package) (f : Func) : Type 0 where
  pub owned : OwnsFunction p f
  pub gives : Gives (call head args) (meaning p f)
  pub fits : first_failure (steps_behind head [] args) ≡ None
