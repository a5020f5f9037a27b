-- The arguments of a call as a list.
use Rattle.std.proofs.Common.{ℕ, zero, suc, ◌-◌, ◌≤◌, ◌<◌, ◌≡◌, max, List, [], ◌∷◌, length, get_or, take, drop, true, None, refl, ap, sym, subst, ◌∙◌, arith}
use Rattle.std.specs.Prelude.{IsTrue}
use Rattle.std.proofs.lemmas.Bool.Decides.{nat_tests}
use Rattle.cf_model.specs.declared.terms.Word2.{Word2}
use Rattle.cf_model.specs.declared.terms.Word2.TheVariants.{And, Or, Xor, Plus, Minus, Times, Min, Max, Eq, Lt}
use Rattle.cf_reference.specs.declared.grammar.Head.{Head}
use Rattle.cf_reference.specs.declared.grammar.Head.TheVariants.{Fold}
use Rattle.cf_reference.specs.Heads.{takes}
use Rattle.cf_session.specs.Arguments.{is_fold}
use Rattle.cf_session.proofs.HeadFacts.{fold_of}
use Rattle.cf_reference.specs.Trees.{count, depth, depths, IsFormed, AreFormed}
use Rattle.cf_reference.specs.States.{State}
use Rattle.cf_reference.specs.Expressions.{walk, walks}
use Rattle.cf_reference.proofs.ExpressionLaws.{walks-more}
use Rattle.cf_reference.proofs.TestFacts.{or_none_first, or_none_second}
use Rattle.cf_script.specs.declared.trees.Expr.{Expr}
use Rattle.cf_script.specs.Views.{tree_of, listed}

-- as many trees as expressions
pub count_listed : (es : List Expr) → count (listed es) ≡ length es
count_listed [] = refl
count_listed (e ∷ es) = omega (arith, count_listed es)

-- a fold has an argument
takes_some : (word : Word2) (n : ℕ) → IsTrue (takes (Fold word) n) → 1 ≤ n
takes_some Minus n h = grind (arith, nat_tests)
takes_some Eq n h = grind (arith, nat_tests)
takes_some Lt n h = grind (arith, nat_tests)
takes_some And n h = grind (arith, nat_tests)
takes_some Or n h = grind (arith, nat_tests)
takes_some Xor n h = grind (arith, nat_tests)
takes_some Plus n h = grind (arith, nat_tests)
takes_some Times n h = grind (arith, nat_tests)
takes_some Min n h = grind (arith, nat_tests)
takes_some Max n h = grind (arith, nat_tests)

pub nested_long : (head : Head) (es : List Expr) → is_fold head ≡ true → IsTrue (takes head (count (listed es))) → 1 ≤ length es
nested_long head es n h =
    let w = fold_of head n in
    omega (arith, takes_some w.0 (count (listed es)) (subst (λ (d : Head). IsTrue (takes d (count (listed es)))) w.1 h), count_listed es)

-- What is known of a call's arguments is known of each of them.
pub item_formed : (head : Head) (place : ℕ) (es : List Expr) (i : ℕ) (e : Expr) → e ≡ get_or es i e → i < length es → AreFormed head place (listed es)
    → IsFormed (tree_of e)
item_formed head place [] i e is h formed = absurd (omega (arith, h))
item_formed head place (x ∷ xs) zero e is h formed = subst (λ (u : Expr). IsFormed (tree_of u)) (sym is) formed.1
item_formed head place (x ∷ xs) (suc i) e is h formed = item_formed head (suc place) xs i e is (omega (arith, h)) formed.2

pub item_walked : (s : State) (es : List Expr) (i : ℕ) (e : Expr) → e ≡ get_or es i e → i < length es
    → walks s (listed es) ≡ None → walk s (tree_of e) ≡ None
item_walked s [] i e is h walked = absurd (omega (arith, h))
item_walked s (x ∷ xs) zero e is h walked =
    subst (λ (u : Expr). walk s (tree_of u) ≡ None) (sym is)
    (or_none_first (walk s (tree_of x)) (walks s (listed xs)) (sym (walks-more s (tree_of x) (listed xs)) ∙ walked))
item_walked s (x ∷ xs) (suc i) e is h walked =
    item_walked s xs i e is (omega (arith, h))
    (or_none_second (walk s (tree_of x)) (walks s (listed xs)) (sym (walks-more s (tree_of x) (listed xs)) ∙ walked))

left_of : (m n : ℕ) → m ≤ max m n
left_of m n = omega arith

pub item_shallow : (es : List Expr) (i : ℕ) (e : Expr) → e ≡ get_or es i e → i < length es
    → depth (tree_of e) ≤ depths (listed es)
item_shallow [] i e is h = absurd (omega (arith, h))
item_shallow (x ∷ xs) zero e is h =
    subst (λ (u : Expr). depth (tree_of u) ≤ max (depth (tree_of x)) (depths (listed xs))) (sym is) (left_of (depth (tree_of x)) (depths (listed xs)))
item_shallow (x ∷ xs) (suc i) e is h = omega (arith, item_shallow xs i e is (omega (arith, h)))

-- the arguments behind the first
abbrev pub later : List Expr → List Expr
later es = take (length es - 1) (drop 1 es)

take_all : (es : List Expr) → take (length es) es ≡ es
take_all [] = refl
take_all (e ∷ es) = ap (λ (l : List Expr). e ∷ l) (take_all es)

later_is : (x : Expr) (xs : List Expr) → later (x ∷ xs) ≡ xs
later_is x xs =
    let n : length (x ∷ xs) - 1 ≡ length xs = omega arith in
    ap (λ (k : ℕ). take k xs) n ∙ take_all xs

pub first_and_later : (es : List Expr) (e : Expr) → e ≡ get_or es 0 e → 1 ≤ length es → es ≡ e ∷ later es
first_and_later [] e is h = absurd (omega (arith, h))
first_and_later (x ∷ xs) e is h =
    ap (λ (u : Expr). u ∷ xs) (sym is) ∙ ap (λ (l : List Expr). e ∷ l) (sym (later_is x xs))

pub later_shallow : (es : List Expr) → depths (listed (later es)) ≤ depths (listed es)
later_shallow [] = omega arith
later_shallow (x ∷ xs) =
    subst (λ (l : List Expr). depths (listed l) ≤ max (depth (tree_of x)) (depths (listed xs))) (sym (later_is x xs)) (omega arith)

-- the next of the arguments that are left
pub next_of : (es : List Expr) (i : ℕ) (e : Expr) → e ≡ get_or es i e → i < length es → drop i es ≡ e ∷ drop (suc i) es
next_of [] i e is h = absurd (omega (arith, h))
next_of (x ∷ xs) zero e is h = ap (λ (u : Expr). u ∷ xs) (sym is)
next_of (x ∷ xs) (suc i) e is h = next_of xs i e is (omega (arith, h))

pub none_left : (es : List Expr) (i : ℕ) → length es ≤ i → drop i es ≡ []
none_left [] zero h = refl
none_left [] (suc i) h = refl
none_left (x ∷ xs) zero h = absurd (omega (arith, h))
none_left (x ∷ xs) (suc i) h = none_left xs i (omega (arith, h))
