use Rattle.std.proofs.Common.{sym, subst, arith}
use Rattle.std.specs.Prelude.{take, ◌+◌}
use Rattle.cf_pkg.specs.Packages.{Means}
use Rattle.cf_model.specs.FlatFunctions.{variable}
use Rattle.cf_session.specs.Statements.{bytes_of}
use Rattle.cf_session.proofs.ListFacts.{get-read}
use Rattle.cf_session.proofs.StatementFacts.{HasAdded, count-added, more-added}
use Rattle.cf_session.proofs.statements.add_variables.Goals as goal

pub overflow_cast-len : goal.overflow_cast-len
overflow_cast-len c =
    let below = count-added c.args.level c.args.bound.now c.loop-name.bound c.args.names.now c.loop-name.name-index c.requires.level c.requires.room c.loop-name-test.true c.loop-name.invariant.names in
    omega (arith, below, c.len.ensures)

pub loop-name-preserved : goal.loop-name-preserved
loop-name-preserved c =
    let names = bytes_of c.args.names.now in
    subst (λ bound. HasAdded c.args.pkg.now c.variable.new.self c.args.level c.args.bound.now bound (take (c.loop-name.name-index + 1) names)) (sym c.in_ok-bind.ensures.bound)
    (more-added c.args.pkg.now c.loop-name.pkg c.variable.new.self c.args.level c.args.bound.now c.loop-name.bound names c.loop-name.name-index _ c.in_ok-f.f c.loop-name.invariant (get-read c.args.names.now c.loop-name.name-index _ c.loop-name-test.true) c.requires.new c.requires.once c.in_ok-f.ensures.kept (subst (λ n. Means c.variable.new.self c.in_ok-f.f (variable c.args.level n)) c.len.ensures c.in_ok-f.ensures.means))
