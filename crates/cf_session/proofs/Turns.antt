-- A session between two arguments of a call.
use Rattle.std.proofs.Common.{ℕ, suc, ◌+◌, ◌≤◌, ◌<◌, ◌≡◌, List, length, true, get_or, drop, None, ap, sym, subst, arith}
use Rattle.cf_pkg.specs.declared.Func.{Func}
use Rattle.cf_pkg.specs.Packages.{Package}
use Rattle.cf_reference.specs.declared.grammar.Head.{Head}
use Rattle.cf_session.specs.Arguments.{is_fold}
use Rattle.cf_reference.specs.Trees.{Tree, Arguments, Call, more, IsFormed}
use Rattle.cf_reference.specs.States.{State}
use Rattle.cf_reference.specs.Expressions.{walk}
use Rattle.cf_script.specs.declared.trees.Expr.{Expr}
use Rattle.cf_script.specs.Views.{tree_of, listed}
use Rattle.cf_session.specs.Sessions.{Held, state_of}
use Rattle.cf_session.specs.Building.{Grows, Builds}
use Rattle.cf_session.proofs.Nesting.{Nesting, nesting_begins, nesting_kept, nesting_ends, next_walked}
use Rattle.cf_session.proofs.Listed.{later, first_and_later, next_of, none_left}

-- the first argument is there
pub begins : (s : State) (head : Head) (es : List Expr) (e : Expr) (p : Package) (f : Func) → is_fold head ≡ true → e ≡ get_or es 0 e → 1 ≤ length es
    → IsFormed (Call head (listed es)) → walk s (Call head (listed es)) ≡ None → Builds s (tree_of e) p f
    → Nesting s head (listed es) p f (listed (later es))
begins s head es e p f n is long formed walked b =
    let split : listed es ≡ more (tree_of e) (listed (later es)) = ap listed (first_and_later es e is long) in
    subst (λ (all : Arguments). Nesting s head all p f (listed (later es))) (sym split)
    (nesting_begins s head (tree_of e) (listed (later es)) p f n (subst (λ (all : Arguments). IsFormed (Call head all)) split formed)
    (subst (λ (all : Arguments). walk s (Call head all) ≡ None) split walked) b)

-- the next argument is left
pub next : (s : State) (head : Head) (all : Arguments) (p : Package) (f : Func) (items : List Expr) (i : ℕ) (e : Expr)
    → Nesting s head all p f (listed (drop i items)) → e ≡ get_or items i e → i < length items
    → Nesting s head all p f (more (tree_of e) (listed (drop (suc i) items)))
next s head all p f items i e h is within =
    subst (λ (left : Arguments). Nesting s head all p f left) (ap listed (next_of items i e is within)) h

pub next_in_order : (s : State) (head : Head) (all : Arguments) (now : Held) (f : Func) (items : List Expr) (i : ℕ) (e : Expr)
    → state_of now ≡ s → Nesting s head all now.pkg f (listed (drop i items)) → e ≡ get_or items i e → i < length items
    → walk (state_of now) (tree_of e) ≡ None
next_in_order s head all now f items i e same h is within =
    subst (λ (u : State). walk u (tree_of e) ≡ None) (sym same)
    (next_walked s head all now.pkg f (tree_of e) (listed (drop (suc i) items)) (next s head all now.pkg f items i e h is within))

-- The next argument's function is there too.
pub record Turn (s : State) (head : Head) (all : Arguments) (p : Package) (f g : Func) (e : Tree) (left : Arguments) : Type 0 where
  pub nesting : Nesting s head all p f (more e left)
  pub built : Builds s e p g

pub turned : (s : State) (head : Head) (all : Arguments) (before now : Held) (f g : Func) (items : List Expr) (i : ℕ) (e : Expr)
    → state_of before ≡ s → Nesting s head all before.pkg f (listed (drop i items)) → e ≡ get_or items i e → i < length items
    → Grows before now → Builds (state_of before) (tree_of e) now.pkg g
    → Turn s head all now.pkg f g (tree_of e) (listed (drop (suc i) items))
turned s head all before now f g items i e same h is within grows b = record {
  nesting = nesting_kept s head all before.pkg now.pkg f (more (tree_of e) (listed (drop (suc i) items))) grows.functions (next s head all before.pkg f items i e h is within);
  built = subst (λ (u : State). Builds u (tree_of e) now.pkg g) same b;
}

pub counted : (s : State) (head : Head) (all : Arguments) (p : Package) (f : Func) (items : List Expr) (i : ℕ)
    → Nesting s head all p f (listed (drop (suc i) items)) → Nesting s head all p f (listed (drop (i + 1) items))
counted s head all p f items i h =
    let n : suc i ≡ i + 1 = omega arith in
    subst (λ (k : ℕ). Nesting s head all p f (listed (drop k items))) n h

-- no argument is left
pub ends : (s : State) (head : Head) (all : Arguments) (p : Package) (f : Func) (items : List Expr) (i : ℕ)
    → Nesting s head all p f (listed (drop i items)) → length items ≤ i → Builds s (Call head all) p f
ends s head all p f items i h past =
    nesting_ends s head all p f (subst (λ (left : Arguments). Nesting s head all p f left) (ap listed (none_left items i past)) h)
