use Rattle.std.proofs.Common.{◌≡◌, ◌+◌, length, ap, arith}
use Rattle.cf_reference.specs.Trees.{count}
use Rattle.cf_script.specs.declared.trees.Expr.{Expr}
use Rattle.cf_script.specs.Views.{tree_of, atoms}
use Rattle.cf_session.specs.Arguments.{arguments_of}
use Rattle.cf_session.proofs.Places.{row_listed, row_count, count_atoms}
use Rattle.cf_session.proofs.arguments.arity.Goals as goal

pub returns-in-Fold : goal.returns-in-Fold
returns-in-Fold c =
    row_count (arguments_of (tree_of c.args.expr.now)) c.items-in-Fold.result.now
    (row_listed c.args.expr.now c.in-Fold.es c.items-in-Fold.result.now c.in-Fold.is c.items-in-Fold.ensures)

pub returns-in-Exists : goal.returns-in-Exists
returns-in-Exists c =
    let is : count (arguments_of (tree_of c.args.expr.now)) ≡ count (atoms c.in-Exists.vars) + 1 = ap (λ (x : Expr). count (arguments_of (tree_of x))) c.in-Exists.is in
    omega (arith, is, count_atoms c.in-Exists.vars, ap length c.items.ensures)

pub returns-in-Forall : goal.returns-in-Forall
returns-in-Forall c =
    let is : count (arguments_of (tree_of c.args.expr.now)) ≡ count (atoms c.in-Forall.vars) + 1 = ap (λ (x : Expr). count (arguments_of (tree_of x))) c.in-Forall.is in
    omega (arith, is, count_atoms c.in-Forall.vars, ap length c.items-in-Forall.ensures)

pub returns-in-SumOut : goal.returns-in-SumOut
returns-in-SumOut c =
    let is : count (arguments_of (tree_of c.args.expr.now)) ≡ count (atoms c.in-SumOut.vars) + 1 = ap (λ (x : Expr). count (arguments_of (tree_of x))) c.in-SumOut.is in
    omega (arith, is, count_atoms c.in-SumOut.vars, ap length c.items-in-SumOut.ensures)

pub returns-in-AndExists : goal.returns-in-AndExists
returns-in-AndExists c =
    let is : count (arguments_of (tree_of c.args.expr.now)) ≡ count (atoms c.in-AndExists.vars) + 1 + 1 = ap (λ (x : Expr). count (arguments_of (tree_of x))) c.in-AndExists.is in
    omega (arith, is, count_atoms c.in-AndExists.vars, ap length c.items-in-AndExists.ensures)
