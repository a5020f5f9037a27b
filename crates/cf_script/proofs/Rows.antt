-- The trees of a list of expressions within an expression.
use Rattle.std.proofs.Common.{◌≡◌, ap, refl, ◌∙◌}
use mathlib.Core.Former.{Count}
use Rattle.cf_model.specs.declared.terms.Word2.{Word2}
use Rattle.cf_reference.specs.declared.grammar.Head.TheVariants as head
use Rattle.cf_reference.specs.Trees.{Call, more}
use Rattle.cf_script.specs.declared.trees.Expr.{Expr, Fold', Ite', Row_of-Expr, end_of-Expr, more_of-Expr, items-the_row-Expr, items_hidden-the_row-Expr-0}
use Rattle.cf_script.specs.declared.trees.Expr as expr
use Rattle.cf_script.specs.declared.trees.Exprs.{Exprs}
use Rattle.cf_script.specs.Views.{tree_of, row_of, listed}

row_listed : (n : _) (row : Row_of-Expr n) → row_of row ≡ listed (items-the_row-Expr n row)
row_listed n end_of-Expr = refl
row_listed n (more_of-Expr e rest) = ap (more (tree_of e)) (row_listed _ rest)

abbrev row_in : Expr → (n : Count) × Row_of-Expr n
row_in (Fold' _ _ row) = (_, row)
row_in (Ite' _ row) = (_, row)
row_in _ = (_, end_of-Expr)

-- the tree of a fold or a choice lists the trees of its items
pub fold_listed : (word : Word2) (es : Exprs) → tree_of (expr.Fold word es) ≡ Call (head.Fold word) (listed es.items.items)
fold_listed word es =
    let row = row_in (expr.Fold word es) in
    ap (Call (head.Fold word)) (row_listed row.0 row.1 ∙ ap listed (items_hidden-the_row-Expr-0 es.items))

pub ite_listed : (es : Exprs) → tree_of (expr.Ite es) ≡ Call head.Ite (listed es.items.items)
ite_listed es =
    let row = row_in (expr.Ite es) in
    ap (Call head.Ite) (row_listed row.0 row.1 ∙ ap listed (items_hidden-the_row-Expr-0 es.items))
