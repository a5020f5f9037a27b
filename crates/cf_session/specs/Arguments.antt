use Rattle.std.specs.Prelude.{◌≡◌, ℕ, zero, suc, List, [], ◌∷◌, Bool, true, false, Option, Some, None}
use Rattle.cf_reference.specs.declared.grammar.Head.{Head}
use Rattle.cf_reference.specs.declared.grammar.Head.TheVariants.{Fold}
use Rattle.cf_reference.specs.declared.grammar.Kind.{Kind}
use Rattle.cf_reference.specs.declared.grammar.Kind.TheVariants.{Expression as AnExpression, Variable as AVariable, Natural as ANatural, Number as ANumber, Bit as ABit}
use Rattle.cf_reference.specs.Trees.{Tree, Num, At, Named, Call, Arguments, none, more, atom}
use Rattle.cf_reference.specs.Trees as tree
use Rattle.cf_reference.specs.Calls.{Meant, Function, Position, Number}
use Rattle.cf_script.specs.Vars.{atom_of}
use Rattle.cf_script.specs.Views.{tree_of, listed}
use Rattle.cf_session.specs.declared.arguments.Form.{Form}
use Rattle.cf_session.specs.declared.arguments.Form.TheVariants as form
use Rattle.cf_session.specs.declared.arguments.Given.{Given}
use Rattle.cf_session.specs.declared.arguments.Given.TheVariants as given

-- the arguments of a call
abbrev pub arguments_of : Tree → Arguments
arguments_of (Call head es) = es
arguments_of other = none

-- a tree is a call
abbrev pub IsCall : Tree → Type 0
IsCall t = (head : Head) × (t ≡ Call head (arguments_of t))

-- the arguments from a place on
abbrev pub from_place : ℕ → Arguments → Arguments
from_place zero es = es
from_place (suc i) none = none
from_place (suc i) (more e es) = from_place i es
from_place (suc i) (atom a es) = from_place i es

-- an argument, and others behind it
abbrev pub before : Given → Arguments → Arguments
before (given.Expr e) later = more (tree_of e.now) later
before (given.Var v) later = atom (atom_of v) later
before (given.Number n) later = atom (tree.Number n) later

-- The argument at a place is given.
abbrev pub StandsAt : ℕ → Arguments → Given → Type 0
StandsAt place es given = from_place place es ≡ before given (from_place (suc place) es)

-- whether a head is nested calls of two expressions
abbrev pub is_fold : Head → Bool
is_fold (Fold word) = true
is_fold other = false

-- a form is that of an expression
abbrev pub IsForm : Form → Tree → Type 0
IsForm (form.Num n) t = t ≡ Num n
IsForm (form.At i) t = t ≡ At i
IsForm (form.Named name) t = t ≡ Named name.now
IsForm (form.Nested head es) t =
    (t ≡ Call head (arguments_of t)) × (arguments_of t ≡ listed es.now) × (is_fold head ≡ true)
IsForm (form.Call head) t = (t ≡ Call head (arguments_of t)) × (is_fold head ≡ false)

-- what an argument means is of a kind
abbrev pub IsOf : Kind → Meant → Type 0
IsOf AnExpression (Function f) = Unit {0}
IsOf AVariable (Position i) = Unit {0}
IsOf ANatural (Number n) = Unit {0}
IsOf ANumber (Number n) = Unit {0}
IsOf ABit (Number n) = Unit {0}
IsOf kind m = ⊥

-- Arguments mean one of each of these kinds, and any number of a further one, if there is one.
abbrev pub OfKinds : List Kind → Option Kind → List Meant → Type 0
OfKinds [] None [] = Unit {0}
OfKinds [] None (m ∷ later) = ⊥
OfKinds [] (Some kind) [] = Unit {0}
OfKinds [] (Some kind) (m ∷ later) = IsOf kind m × OfKinds [] (Some kind) later
OfKinds (kind ∷ kinds) further [] = ⊥
OfKinds (kind ∷ kinds) further (m ∷ later) = IsOf kind m × OfKinds kinds further later
