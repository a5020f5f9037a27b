-- An expression is kept whose parts are kept and whose jobs were looked up.
use Rattle.std.proofs.Common.{ℕ, ℤ, ◌≡◌, ◌≤◌, ◌<◌, length, get_or, arith, List, [], ◌∷◌, Option, Some, None, IfSome, refl, sym, ap, subst, ◌∙◌}
use Rattle.std.specs.Prelude.{nat_abs}
use Rattle.cf_model.specs.declared.terms.Word1.{Word1}
use Rattle.cf_model.specs.declared.terms.Word2.{Word2}
use Rattle.cf_ops.specs.Operations.{of_one, of_two, of_three}
use Rattle.cf_pkg.specs.declared.Func.{Func}
use Rattle.cf_pkg.specs.Tasks.{Task}
use Rattle.cf_pkg.specs.Tasks as task
use Rattle.cf_pkg.specs.Packages.{Package, IsRemembered, OwnsFunction, meaning}
use Rattle.cf_reference.specs.declared.grammar.Head.TheVariants.{Const, One, Fold, Ite}
use Rattle.cf_reference.specs.Trees.{Tree, Num, At, Named, Call, Arguments, none, more, atom}
use Rattle.cf_reference.specs.Trees as tree
use Rattle.cf_reference.specs.States.{level_in, named}
use Rattle.cf_script.specs.declared.trees.Expr.{Expr}
use Rattle.cf_script.specs.declared.trees.Expr as expr
use Rattle.cf_script.specs.declared.trees.Exprs.{Exprs}
use Rattle.cf_script.specs.Views.{tree_of, listed}
use Rattle.cf_script.proofs.Rows.{fold_listed, ite_listed}
use Rattle.cf_session.specs.declared.values.Value.TheVariants.{Function, Number}
use Rattle.cf_session.specs.Sessions.{Held, state_of}
use Rattle.cf_session.specs.Keeping.{IsKept}
use Rattle.cf_session.proofs.KeptCalls.{Steps}
use Rattle.cf_session.proofs.Kept.{const_is, var_is}

-- a job that is remembered in the session's package, as that is seen from its parts
pub seen : (p q : Package) → p ≡ q → (t : Task) (r : Option Func) → IfSome r (IsRemembered p t) → IfSome r (IsRemembered q t)
seen p q e t r = subst (λ (x : Package). IfSome r (IsRemembered x t)) e

-- the trees of calls
pub fold_tree : (e : Expr) (word : Word2) (es : Exprs) (items : List Expr) → e ≡ expr.Fold word es → items ≡ es.items.items
    → tree_of e ≡ Call (Fold word) (listed items)
fold_tree e word es items is same = ap tree_of is ∙ fold_listed word es ∙ ap (λ l. Call (Fold word) (listed l)) (sym same)

pub choice_tree : (e : Expr) (es : Exprs) (items : List Expr) → e ≡ expr.Ite es → items ≡ es.items.items → tree_of e ≡ Call Ite (listed items)
choice_tree e es items is same = ap tree_of is ∙ ite_listed es ∙ ap (λ l. Call Ite (listed l)) (sym same)

pub three_of : (es : List Expr) → 3 ≤ length es → length es < 4 → (a b c : Expr) → a ≡ get_or es 0 a → b ≡ get_or es 1 b → c ≡ get_or es 2 c
    → listed es ≡ more (tree_of a) (more (tree_of b) (more (tree_of c) none))
three_of [] low high a b c first second third = absurd (omega (arith, low))
three_of (x ∷ []) low high a b c first second third = absurd (omega (arith, low))
three_of (x ∷ y ∷ []) low high a b c first second third = absurd (omega (arith, low))
three_of (x ∷ y ∷ z ∷ []) low high a b c first second third =
    ap (λ u. more (tree_of u) (more (tree_of y) (more (tree_of z) none))) (sym first)
    ∙ ap (λ u. more (tree_of a) (more (tree_of u) (more (tree_of z) none))) (sym second)
    ∙ ap (λ u. more (tree_of a) (more (tree_of b) (more (tree_of u) none))) (sym third)
three_of (x ∷ y ∷ z ∷ w ∷ es) low high a b c first second third = absurd (omega (arith, high))

abbrev pub constant_of : ℤ → ℤ → Tree
constant_of j n = Call Const (atom (tree.Number j) (atom (tree.Number n) none))

pub constant_tree : (e : Expr) (i j m n : ℤ) → i ≡ j → m ≡ n → e ≡ expr.Const j n → constant_of i m ≡ tree_of e
constant_tree e i j m n same other is = ap (λ x. constant_of x m) same ∙ ap (constant_of j) other ∙ ap tree_of (sym is)

-- leaves
pub number_found : (h : Held) (l : ℕ) (m n : ℤ) (r : Option Func) → l ≡ level_in (state_of h) → m ≡ n → IfSome r (IsRemembered h.pkg (task.Const l m)) → IfSome r (IsKept h (Num n))
number_found h l m n None e same k = tt
number_found h l m n (Some f) e same k = subst (λ t. IsRemembered h.pkg t f) (const_is l (level_in (state_of h)) m n e same) k

pub bit_found : (h : Held) (l i : ℕ) (j : ℤ) (r : Option Func) → l ≡ level_in (state_of h) → i ≡ nat_abs j → IfSome r (IsRemembered h.pkg (task.Var l i)) → IfSome r (IsKept h (At j))
bit_found h l i j None e same k = tt
bit_found h l i j (Some f) e same k = subst (λ t. IsRemembered h.pkg t f) (var_is l (level_in (state_of h)) i (nat_abs j) e same) k

pub name_found : (h : Held) (name : List ℕ) (r : Option Func) → IfSome r (λ f. OwnsFunction h.pkg f) → IfSome r (λ f. named (state_of h) name ≡ Some (meaning h.pkg f))
    → IfSome r (IsKept h (Named name))
name_found h name None owned means = tt
name_found h name (Some f) owned means = record { owned = owned; means = means }

-- calls of fixed arity
pub constant_found : (h : Held) (l : ℕ) (j m n : ℤ) (r : Option Func) → l ≡ nat_abs j → m ≡ n → IfSome r (IsRemembered h.pkg (task.Const l m))
    → IfSome r (IsKept h (Call Const (atom (tree.Number j) (atom (tree.Number n) none))))
constant_found h l j m n None e same k = tt
constant_found h l j m n (Some f) e same k =
    (Number j ∷ Number n ∷ [], (refl, (refl, tt)), (task.Const (nat_abs j) n, refl, subst (λ t. IsRemembered h.pkg t f) (const_is l (nat_abs j) m n e same) k))

pub one_found : (h : Held) (word : Word1) (e : Tree) (f : Func) (r : Option Func) → IsKept h e f → IfSome r (IsRemembered h.pkg (task.Map (of_one word) f))
    → IfSome r (IsKept h (Call (One word) (more e none)))
one_found h word e f None kept k = tt
one_found h word e f (Some r) kept k = (Function f ∷ [], (kept, tt), (task.Map (of_one word) f, refl, k))

pub choice_found : (h : Held) (a b c : Tree) (f g x : Func) (r : Option Func) → IsKept h a f → IsKept h b g → IsKept h c x
    → IfSome r (IsRemembered h.pkg (task.Ternary of_three f g x)) → IfSome r (IsKept h (Call Ite (more a (more b (more c none)))))
choice_found h a b c f g x None first second third k = tt
choice_found h a b c f g x (Some r) first second third k =
    (Function f ∷ Function g ∷ Function x ∷ [], (first, (second, (third, tt))), (task.Ternary of_three f g x, refl, k))

-- The steps of nested calls that are kept from a function on lead to the whole.
abbrev pub LeadsOn : Held → Word2 → Arguments → Func → Arguments → Type 0
LeadsOn h word all f left = (r : Func) → Steps h (Fold word) left f r → IsKept h (Call (Fold word) all) r

pub fold_begins : (h : Held) (word : Word2) (e : Tree) (es : Arguments) (f : Func) → IsKept h e f → LeadsOn h word (more e es) f es
fold_begins h word e es f kept r s = (Function f ∷ s.0, (kept, s.1), s.2)

pub fold_goes : (h : Held) (word : Word2) (all : Arguments) (f g step : Func) (e : Tree) (es : Arguments) → LeadsOn h word all f (more e es) → IsKept h e g
    → IsRemembered h.pkg (task.Apply (of_two word) f g) step → LeadsOn h word all step es
fold_goes h word all f g step e es leads kept k r s =
    leads r (Function g ∷ s.0, (kept, s.1), (step, (task.Apply (of_two word) f g, refl, k), s.2))

pub fold_ends : (h : Held) (word : Word2) (all : Arguments) (f : Func) → LeadsOn h word all f none → IsKept h (Call (Fold word) all) f
fold_ends h word all f leads = leads f ([], tt, refl)
