use Rattle.std.proofs.Common.{arith}
use Rattle.cf_script.specs.Views.{tree_of}
use Rattle.cf_session.specs.Arguments.{arguments_of}
use Rattle.cf_session.proofs.Places.{row_listed, row_count, row_at}
use Rattle.cf_session.proofs.arguments.argument.Goals as goal

pub offset_bounds-items-place : goal.offset_bounds-items-place
offset_bounds-items-place c =
    let n = row_count (arguments_of (tree_of c.args.expr.now)) c.items.result.now (row_listed c.args.expr.now c.in-Fold.es c.items.result.now c.in-Fold.is c.items.ensures) in
    omega (arith, n, c.requires, c.items.type_inv.1)

pub bounds-items-place : goal.bounds-items-place
bounds-items-place c =
    let n = row_count (arguments_of (tree_of c.args.expr.now)) c.items.result.now (row_listed c.args.expr.now c.in-Fold.es c.items.result.now c.in-Fold.is c.items.ensures) in
    omega (arith, n, c.requires)

pub returns-in-Fold : goal.returns-in-Fold
returns-in-Fold c =
    let listed = row_listed c.args.expr.now c.in-Fold.es c.items.result.now c.in-Fold.is c.items.ensures in
    let n = row_count (arguments_of (tree_of c.args.expr.now)) c.items.result.now listed in
    row_at (arguments_of (tree_of c.args.expr.now)) c.items.result.now c.args.place c.index-items-place.result listed c.index-items-place.is (omega (arith, n, c.requires))
