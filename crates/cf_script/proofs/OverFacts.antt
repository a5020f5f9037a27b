-- The arguments of a call over variables.
use Rattle.std.proofs.Common.{ℕ, ℤ, zero, suc, ◌≡◌, true, false, List, [], ◌∷◌, ◌++◌, ◌+◌, length, Option, Result, Ok, Err, refl, ap, sym, subst, ◌∙◌, arith}
use Rattle.std.specs.Prelude.{OnOk}
use Rattle.std.proofs.lemmas.Bool.{false≢true}
use Rattle.std.proofs.lemmas.List.{append_assoc, length-append}
use Rattle.cf_reference.specs.declared.grammar.Head.{Head}
use Rattle.cf_reference.specs.declared.grammar.Head.TheVariants.{Const, One, Fold, Ite, Restrict, Exists, Forall, SumOut, Compose, AndExists, Kron, Matmul, Transpose, Id, Walsh, Unit as UnitAt}
use Rattle.cf_reference.specs.declared.grammar.Kind.{Kind}
use Rattle.cf_reference.specs.declared.grammar.Kind.TheVariants.{Expression as AnExpression, Variable as AVariable}
use Rattle.cf_reference.specs.Heads.{kind_at}
use Rattle.cf_script.specs.declared.trees.Expr.{Expr}
use Rattle.cf_script.specs.declared.trees.Var.{Var}
use Rattle.cf_script.specs.declared.arguments.Argument.{Argument}
use Rattle.cf_script.specs.declared.arguments.Argument.TheVariants as argument
use Rattle.cf_script.specs.declared.arguments.Operands.{Operands}
use Rattle.cf_script.specs.declared.arguments.Operands.TheVariants as operand
use Rattle.cf_script.specs.declared.arguments.Over.{Over}
use Rattle.cf_script.specs.Views.{atoms}
use Rattle.cf_script.specs.Vars.{atom_of}
use Rattle.cf_reference.specs.Trees.{atom}
use Rattle.cf_script.specs.Arguments.{held, as_variables, operands_of, over, has_both, Follows, is_over, IsOf, OfKinds, HaveKinds}

-- the kinds of its places
first_kind : (head : Head) → is_over head ≡ true → kind_at head 0 ≡ AnExpression
first_kind Const h = absurd (false≢true h)
first_kind (One word) h = absurd (false≢true h)
first_kind (Fold word) h = absurd (false≢true h)
first_kind Ite h = absurd (false≢true h)
first_kind Restrict h = absurd (false≢true h)
first_kind Compose h = absurd (false≢true h)
first_kind Kron h = absurd (false≢true h)
first_kind Matmul h = absurd (false≢true h)
first_kind Transpose h = absurd (false≢true h)
first_kind Id h = absurd (false≢true h)
first_kind Walsh h = absurd (false≢true h)
first_kind UnitAt h = absurd (false≢true h)
first_kind Exists h = refl
first_kind Forall h = refl
first_kind SumOut h = refl
first_kind AndExists h = refl

later_kind : (head : Head) (i : ℕ) → is_over head ≡ true → kind_at head (suc (suc i)) ≡ AVariable
later_kind Const i h = absurd (false≢true h)
later_kind (One word) i h = absurd (false≢true h)
later_kind (Fold word) i h = absurd (false≢true h)
later_kind Ite i h = absurd (false≢true h)
later_kind Restrict i h = absurd (false≢true h)
later_kind Compose i h = absurd (false≢true h)
later_kind Kron i h = absurd (false≢true h)
later_kind Matmul i h = absurd (false≢true h)
later_kind Transpose i h = absurd (false≢true h)
later_kind Id i h = absurd (false≢true h)
later_kind Walsh i h = absurd (false≢true h)
later_kind UnitAt i h = absurd (false≢true h)
later_kind Exists i h = refl
later_kind Forall i h = refl
later_kind SumOut i h = refl
later_kind AndExists zero h = refl
later_kind AndExists (suc i) h = refl

no_number_second : (head : Head) (n : ℤ) → is_over head ≡ true → IsOf (kind_at head 1) (argument.Number n) → ⊥
no_number_second Const n h k = absurd (false≢true h)
no_number_second (One word) n h k = absurd (false≢true h)
no_number_second (Fold word) n h k = absurd (false≢true h)
no_number_second Ite n h k = absurd (false≢true h)
no_number_second Restrict n h k = absurd (false≢true h)
no_number_second Compose n h k = absurd (false≢true h)
no_number_second Kron n h k = absurd (false≢true h)
no_number_second Matmul n h k = absurd (false≢true h)
no_number_second Transpose n h k = absurd (false≢true h)
no_number_second Id n h k = absurd (false≢true h)
no_number_second Walsh n h k = absurd (false≢true h)
no_number_second UnitAt n h k = absurd (false≢true h)
no_number_second Exists n h k = k
no_number_second Forall n h k = k
no_number_second SumOut n h k = k
no_number_second AndExists n h k = k

no_number : (head : Head) (i : ℕ) (n : ℤ) → is_over head ≡ true → IsOf (kind_at head i) (argument.Number n) → ⊥
no_number head zero n h k = subst (λ (x : Kind). IsOf x (argument.Number n)) (first_kind head h) k
no_number head (suc zero) n h k = no_number_second head n h k
no_number head (suc (suc i)) n h k = subst (λ (x : Kind). IsOf x (argument.Number n)) (later_kind head i h) k

-- an expression comes before the variables
no_later : (head : Head) (i : ℕ) (e : Expr) → is_over head ≡ true → IsOf (kind_at head (suc (suc i))) (argument.Expr e) → ⊥
no_later head i e h k = subst (λ (x : Kind). IsOf x (argument.Expr e)) (later_kind head i h) k

no_first : (head : Head) (v : Var) → is_over head ≡ true → IsOf (kind_at head 0) (argument.Var v) → ⊥
no_first head v h k = subst (λ (x : Kind). IsOf x (argument.Var v)) (first_kind head h) k

expression_follows : (head : Head) (operands : Operands) (vars : List Var) (e : Expr) → is_over head ≡ true → HaveKinds (kind_at head) (operands_of operands ++ as_variables vars)
    → IsOf (kind_at head (length (operands_of operands ++ as_variables vars))) (argument.Expr e) → (has_both operands ≡ false) × (vars ≡ [])
expression_follows head operand.Empty [] e h have k = (refl, refl)
expression_follows head operand.Empty (v ∷ vars) e h have k = absurd (no_first head v h have.0)
expression_follows head (operand.One x) [] e h have k = (refl, refl)
expression_follows head (operand.One x) (v ∷ vars) e h have k = absurd (no_later head (length (as_variables vars)) e h k)
expression_follows head (operand.Two x y) vars e h have k = absurd (no_later head (length (as_variables vars)) e h k)

-- an argument of the next place's kind comes behind those before it
pub follows : (head : Head) (args : Over) (a : Argument) → is_over head ≡ true → HaveKinds (kind_at head) (over args) → IsOf (kind_at head (length (over args))) a → Follows args a
follows head args (argument.Expr e) h have k = expression_follows head args.operands args.vars e h have k
follows head args (argument.Var v) h have k = tt
follows head args (argument.Number n) h have k = no_number head (length (over args)) n h k

pub first-follows : (head : Head) (args : Over) (a : Argument) → is_over head ≡ true → over args ≡ [] → IsOf (kind_at head 0) a → Follows args a
first-follows head args a h nothing k =
    follows head args a h (subst (HaveKinds (kind_at head)) (sym nothing) tt) (subst (λ (l : List Argument). IsOf (kind_at head (length l)) a) (sym nothing) k)

-- lists of variables
variables-append : (vars : List Var) (v : Var) → as_variables (vars ++ v ∷ []) ≡ as_variables vars ++ argument.Var v ∷ []
variables-append [] v = refl
variables-append (x ∷ vars) v = ap (λ l. argument.Var x ∷ l) (variables-append vars v)

variables_long : (vars : List Var) → length (as_variables vars) ≡ length vars
variables_long [] = refl
variables_long (v ∷ vars) = omega (arith, variables_long vars)

pub held_variables : (vars : List Var) → held (as_variables vars) ≡ atoms vars
held_variables [] = refl
held_variables (v ∷ vars) = ap (atom (atom_of v)) (held_variables vars)

pub over_long : (args : Over) → length (over args) ≡ length (operands_of args.operands) + length args.vars
over_long args = length-append (operands_of args.operands) (as_variables args.vars) ∙ omega (arith, variables_long args.vars)

-- one argument more
pub variable-pushed : (args now : Over) (v : Var) → now.operands ≡ args.operands → now.vars ≡ args.vars ++ v ∷ [] → over now ≡ over args ++ argument.Var v ∷ []
variable-pushed args now v same is =
    ap (λ (o : Operands). operands_of o ++ as_variables now.vars) same
    ∙ ap (λ (l : List Var). operands_of args.operands ++ as_variables l) is
    ∙ ap (λ l. operands_of args.operands ++ l) (variables-append args.vars v)
    ∙ sym (append_assoc (operands_of args.operands) (as_variables args.vars) (argument.Var v ∷ []))

pub on-ok : {T E : Type 0} (r : Result T E) (P Q : Type 0) → OnOk r P → (P → Q) → OnOk r Q
on-ok (Ok x) P Q h f = f h
on-ok (Err e) P Q h f = tt

-- where an expression has to stand, no variable does
no_operand : (kinds : List Kind) (further : Option Kind) (vars : List Var) → OfKinds (AnExpression ∷ kinds) further (as_variables vars) → ⊥
no_operand kinds further [] h = h
no_operand kinds further (v ∷ vars) h = h.0

pub no-operands : (kinds : List Kind) (further : Option Kind) (operands : Operands) (vars : List Var) → operands ≡ operand.Empty
    → OfKinds (AnExpression ∷ kinds) further (operands_of operands ++ as_variables vars) → ⊥
no-operands kinds further operands vars is h =
    no_operand kinds further vars (subst (λ (o : Operands). OfKinds (AnExpression ∷ kinds) further (operands_of o ++ as_variables vars)) is h)

pub one-operand : (kinds : List Kind) (further : Option Kind) (operands : Operands) (vars : List Var) (e : Expr) → operands ≡ operand.One e
    → OfKinds (AnExpression ∷ AnExpression ∷ kinds) further (operands_of operands ++ as_variables vars) → ⊥
one-operand kinds further operands vars e is h =
    no_operand kinds further vars (subst (λ (o : Operands). OfKinds (AnExpression ∷ AnExpression ∷ kinds) further (operands_of o ++ as_variables vars)) is h).1
