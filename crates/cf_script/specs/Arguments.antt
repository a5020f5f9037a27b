use Rattle.std.specs.Prelude.{ℕ, suc, zero, ◌≡◌, ◌||◌, pos, List, [], ◌∷◌, ◌++◌, length, Bool, true, false, Option, Some, None, IsTrue}
use Rattle.std.specs.Ordering.{int_eq}
use Rattle.cf_reference.specs.declared.grammar.Head.{Head}
use Rattle.cf_reference.specs.declared.grammar.Head.TheVariants.{Const, One, Fold, Ite, Restrict, Exists, Forall, SumOut, Compose, AndExists, Kron, Matmul, Transpose, Id, Walsh, Unit as UnitAt}
use Rattle.cf_reference.specs.declared.grammar.Kind.{Kind}
use Rattle.cf_reference.specs.declared.grammar.Kind.TheVariants.{Expression as AnExpression, Variable as AVariable, Natural as ANatural, Number as ANumber, Bit as ABit}
use Rattle.cf_reference.specs.Heads.{kind_at, takes}
use Rattle.cf_reference.specs.Trees.{Call, Arguments, none, more, atom, Atom, Number, count, atom_fits, arguments_fit}
use Rattle.cf_reference.specs.Grammar.{atom_of as atom_of_word, SpellsTree, SpellsArguments}
use Rattle.cf_script.specs.declared.trees.Expr.{Expr}
use Rattle.cf_script.specs.declared.arguments.Gathered.{Gathered}
use Rattle.cf_script.specs.declared.arguments.Gathered.TheVariants as form
use Rattle.cf_script.specs.declared.arguments.Operands.{Operands}
use Rattle.cf_script.specs.declared.arguments.Operands.TheVariants as operand
use Rattle.cf_script.specs.declared.arguments.Over.{Over}
use Rattle.cf_script.specs.declared.arguments.Argument.{Argument}
use Rattle.cf_script.specs.declared.arguments.Argument.TheVariants as argument
use Rattle.cf_script.specs.declared.trees.Var.{Var}
use Rattle.cf_script.specs.Vars.{atom_of}
use Rattle.cf_script.specs.Views.{tree_of}

-- arguments without where they lie in memory
abbrev pub held : List Argument → Arguments
held [] = none
held (argument.Expr e ∷ later) = more (tree_of e) (held later)
held (argument.Var v ∷ later) = atom (atom_of v) (held later)
held (argument.Number n ∷ later) = atom (Number n) (held later)

-- an argument is of a kind
abbrev pub IsOf : Kind → Argument → Type 0
IsOf AnExpression (argument.Expr e) = Unit {0}
IsOf AVariable (argument.Var v) = Unit {0}
IsOf ANatural (argument.Number n) = Unit {0}
IsOf ANumber (argument.Number n) = Unit {0}
IsOf ABit (argument.Number n) = IsTrue (int_eq n (pos 0) || int_eq n (pos 1))
IsOf kind a = ⊥

-- The arguments are one of each of these kinds, and any number of a further one, if there is one.
abbrev pub OfKinds : List Kind → Option Kind → List Argument → Type 0
OfKinds [] None [] = Unit {0}
OfKinds [] None (a ∷ later) = ⊥
OfKinds [] (Some kind) [] = Unit {0}
OfKinds [] (Some kind) (a ∷ later) = IsOf kind a × OfKinds [] (Some kind) later
OfKinds (kind ∷ kinds) further [] = ⊥
OfKinds (kind ∷ kinds) further (a ∷ later) = IsOf kind a × OfKinds kinds further later

-- expressions as arguments
abbrev pub as_arguments : List Expr → List Argument
as_arguments [] = []
as_arguments (e ∷ es) = argument.Expr e ∷ as_arguments es

-- the arguments that were gathered
abbrev pub gathered : Gathered → List Argument
gathered form.Empty = []
gathered (form.One a) = a ∷ []
gathered (form.Two a b) = a ∷ b ∷ []
gathered (form.Three a b c) = a ∷ b ∷ c ∷ []

abbrev pub has_three : Gathered → Bool
has_three (form.Three a b c) = true
has_three other = false

-- variables as arguments
abbrev pub as_variables : List Var → List Argument
as_variables [] = []
as_variables (v ∷ vars) = argument.Var v ∷ as_variables vars

abbrev pub operands_of : Operands → List Argument
operands_of operand.Empty = []
operands_of (operand.One e) = argument.Expr e ∷ []
operands_of (operand.Two e f) = argument.Expr e ∷ argument.Expr f ∷ []

-- the arguments of a call over variables that were gathered
abbrev pub over : Over → List Argument
over args = operands_of args.operands ++ as_variables args.vars

abbrev pub has_both : Operands → Bool
has_both (operand.Two e f) = true
has_both other = false

-- An argument comes behind others: an expression where there are no variables, or a variable.
abbrev pub Follows : Over → Argument → Type 0
Follows args (argument.Expr e) = (has_both args.operands ≡ false) × (args.vars ≡ [])
Follows args (argument.Var v) = Unit {0}
Follows args (argument.Number n) = ⊥

-- whether a call keeps its arguments as a list
abbrev pub is_list : Head → Bool
is_list (Fold word) = true
is_list Ite = true
is_list other = false

-- whether a call is over any number of variables, and keeps those as a list
abbrev pub is_over : Head → Bool
is_over Exists = true
is_over Forall = true
is_over SumOut = true
is_over AndExists = true
is_over other = false

-- whether a call makes a matrix
abbrev pub is_matrix : Head → Bool
is_matrix Kron = true
is_matrix Matmul = true
is_matrix Transpose = true
is_matrix Id = true
is_matrix Walsh = true
is_matrix UnitAt = true
is_matrix other = false

-- whether a call has at most three arguments, and keeps no list
abbrev pub is_few : Head → Bool
is_few Const = true
is_few (One word) = true
is_few Restrict = true
is_few Compose = true
is_few other = is_matrix other

-- the kind of each place
abbrev pub HaveKinds : (ℕ → Kind) → List Argument → Type 0
HaveKinds kind [] = Unit {0}
HaveKinds kind (a ∷ later) = IsOf (kind zero) a × HaveKinds (λ i. kind (suc i)) later

-- The words begin with one argument of a kind, and the rest comes after it.
abbrev pub SpellsOne : Kind → Arguments → List (List ℕ) → List (List ℕ) → Type 0
SpellsOne kind (more e none) all rest = (kind ≡ AnExpression) × SpellsTree e all rest
SpellsOne kind (atom a none) all rest = (word : List ℕ) × (all ≡ word ∷ rest) × (atom_of_word kind word ≡ Some a)
SpellsOne kind other all rest = ⊥

-- An argument is what a word by itself spells, where its number fits.
pub record IsWord (kind : Kind) (a : Argument) (word : List ℕ) : Type 0 where
  pub spelled : Atom
  pub spells : atom_of_word kind word ≡ Some spelled
  pub kinds : IsOf kind a
  pub shows : atom_fits spelled ≡ true → held (a ∷ []) ≡ atom spelled none

-- An argument is what the words begin with.
pub record IsArgument (kind : Kind) (a : Argument) (all rest : List (List ℕ)) : Type 0 where
  pub spelled : Arguments
  pub spells : SpellsOne kind spelled all rest
  pub kinds : IsOf kind a
  pub shows : arguments_fit spelled ≡ true → held (a ∷ []) ≡ spelled

-- Arguments are those of a head that the words begin with.
pub record AreReadings (head : Head) (args : List Argument) (all rest : List (List ℕ)) : Type 0 where
  pub spelled : Arguments
  pub spells : SpellsArguments head 0 spelled all rest
  pub long : count spelled ≡ length args
  pub number : takes head (length args) ≡ true
  pub kinds : HaveKinds (kind_at head) args
  pub shows : arguments_fit spelled ≡ true → held args ≡ spelled

-- The same for arguments as they are gathered.
abbrev pub AreGathered : Head → Gathered → List (List ℕ) → List (List ℕ) → Type 0
AreGathered head args all rest = AreReadings head (gathered args) all rest

-- An expression is the call of a head with arguments that the words begin with.
pub record IsCall (head : Head) (e : Expr) (all rest : List (List ℕ)) : Type 0 where
  pub arguments : List Argument
  pub read : AreReadings head arguments all rest
  pub same : tree_of e ≡ Call head (held arguments)

abbrev pub SpellsNoArgument : Kind → List (List ℕ) → Type 0
SpellsNoArgument kind all = (es : Arguments) (rest : List (List ℕ)) → SpellsOne kind es all rest → ⊥

abbrev pub SpellsNoArguments : Head → List (List ℕ) → Type 0
SpellsNoArguments head all =
    (es : Arguments) (rest : List (List ℕ)) → IsTrue (takes head (count es)) → SpellsArguments head 0 es all rest → ⊥
