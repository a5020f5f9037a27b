-- The arguments of a call by their places.
use Rattle.std.proofs.Common.{ℕ, zero, suc, ◌≡◌, ◌-◌, ◌≤◌, ◌<◌, List, [], ◌∷◌, length, get_or, ◌⊎◌, inl, inr, refl, ap, sym, ◌∙◌, arith}
use Rattle.cf_model.specs.declared.terms.Word2.{Word2}
use Rattle.cf_reference.specs.Trees.{Tree, Arguments, more, atom, count}
use Rattle.cf_script.specs.declared.trees.Expr.{Expr}
use Rattle.cf_script.specs.declared.trees.Expr as expr
use Rattle.cf_script.specs.declared.trees.Exprs.{Exprs}
use Rattle.cf_script.specs.declared.trees.Var.{Var}
use Rattle.cf_script.specs.Vars.{atom_of}
use Rattle.cf_script.specs.Views.{tree_of, listed, atoms}
use Rattle.cf_script.proofs.Rows.{fold_listed, ite_listed}
use Rattle.cf_session.specs.Arguments.{arguments_of, from_place}
use Rattle.cf_session.proofs.Listed.{count_listed}

-- a fold's or a choice's are listed
pub row_listed : (e : Expr) (es : Exprs) (items : List Expr) → ((word : Word2) × (e ≡ expr.Fold word es)) ⊎ (e ≡ expr.Ite es) → items ≡ es.items.items
    → arguments_of (tree_of e) ≡ listed items
row_listed e es items (inl h) is = ap (λ x. arguments_of (tree_of x)) h.1 ∙ ap arguments_of (fold_listed h.0 es) ∙ ap listed (sym is)
row_listed e es items (inr h) is = ap (λ x. arguments_of (tree_of x)) h ∙ ap arguments_of (ite_listed es) ∙ ap listed (sym is)

pub row_count : (args : Arguments) (items : List Expr) → args ≡ listed items → length items ≡ count args
row_count args items h = sym (ap count h ∙ count_listed items)

listed_at : (es : List Expr) (i : ℕ) (e : Expr) → e ≡ get_or es i e → i < length es → from_place i (listed es) ≡ more (tree_of e) (from_place (suc i) (listed es))
listed_at [] i e is h = absurd (omega (arith, h))
listed_at (x ∷ es) zero e is h = ap (λ y. more (tree_of y) (listed es)) (sym is)
listed_at (x ∷ es) (suc i) e is h = listed_at es i e is (omega (arith, h))

pub row_at : (args : Arguments) (es : List Expr) (i : ℕ) (e : Expr) → args ≡ listed es → e ≡ get_or es i e → i < length es
    → from_place i args ≡ more (tree_of e) (from_place (suc i) args)
row_at args es i e h is within = ap (from_place i) h ∙ listed_at es i e is within ∙ ap (λ l. more (tree_of e) (from_place (suc i) l)) (sym h)

-- variables by their places
pub count_atoms : (vars : List Var) → count (atoms vars) ≡ length vars
count_atoms [] = refl
count_atoms (v ∷ vars) = omega (arith, count_atoms vars)

atom_at : (vars : List Var) (i : ℕ) (d : Var) → i < length vars → from_place i (atoms vars) ≡ atom (atom_of (get_or vars i d)) (from_place (suc i) (atoms vars))
atom_at [] i d h = absurd (omega (arith, h))
atom_at (x ∷ vars) zero d h = refl
atom_at (x ∷ vars) (suc i) d h = atom_at vars i d (omega (arith, h))

pub behind_one : (e : Tree) (vars : List Var) (place : ℕ) (d : Var) → 1 ≤ place → place - 1 < length vars
    → from_place place (more e (atoms vars)) ≡ atom (atom_of (get_or vars (place - 1) d)) (from_place place (atoms vars))
behind_one e vars zero d low h = absurd (omega (arith, low))
behind_one e vars (suc i) d low h =
    let same : i ≡ suc i - 1 = omega arith in
    atom_at vars i d (omega (arith, h)) ∙ ap (λ k. atom (atom_of (get_or vars k d)) (from_place (suc i) (atoms vars))) same
