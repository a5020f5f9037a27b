use Rattle.std.proofs.Common.{true, false, sym, ◌∙◌, subst, arith}
use Rattle.cf_model.specs.FlatFunctions.{variable}
use Rattle.cf_pkg.specs.Packages.{Means}
use Rattle.cf_session.proofs.InputFacts.{among-place, input-taken, input-many, input-free, input-names, input-positions}
use Rattle.cf_session.proofs.load.add_input.Goals as goal

pub returns-then-is_some-2-clause-fault : goal.returns-then-is_some-2-clause-fault
returns-then-is_some-2-clause-fault c =
    input-taken c.args.pkg.now c.args.level c.args.bound.now c.args.functions.now c.args.input.now
    (among-place c.args.bound.now c.args.input.now c.place.result false c.place.ensures (sym c.is_some.ensures ∙ c.if-is_some.false))
    (among-place c.args.functions.now c.args.input.now c.place-2.result true c.place-2.ensures (sym c.is_some-2.ensures ∙ c.if-is_some-2.true))

pub returns-then-from-len-clause-fault : goal.returns-then-from-len-clause-fault
returns-then-from-len-clause-fault c =
    input-many c.args.pkg.now c.args.level c.args.bound.now c.args.functions.now c.args.input.now
    (among-place c.args.bound.now c.args.input.now c.place.result false c.place.ensures (sym c.is_some.ensures ∙ c.if-is_some.false))
    (among-place c.args.functions.now c.args.input.now c.place-2.result false c.place-2.ensures (sym c.is_some-2.ensures ∙ c.if-is_some-2.false))
    (omega (arith, c.if-from-len.true, c.variables.ensures, c.from.ensures, c.len.ensures))

pub returns-clause-free : goal.returns-clause-free
returns-clause-free c =
    input-free c.args.pkg.now c.args.level c.args.bound.now c.args.functions.now c.args.input.now
    (among-place c.args.bound.now c.args.input.now c.place.result false c.place.ensures (sym c.is_some.ensures ∙ c.if-is_some.false))
    (among-place c.args.functions.now c.args.input.now c.place-2.result false c.place-2.ensures (sym c.is_some-2.ensures ∙ c.if-is_some-2.false))
    (omega (arith, c.if-from-len.false, c.variables.ensures, c.from.ensures, c.len.ensures))

pub returns-clause-names : goal.returns-clause-names
returns-clause-names c =
    input-names c.args.pkg.now c.args.level c.args.bound.now c.args.functions.now c.bind.new.self c.args.input.now c.in_ok-f.f
    (among-place c.args.bound.now c.args.input.now c.place.result false c.place.ensures (sym c.is_some.ensures ∙ c.if-is_some.false))
    c.in_ok-bind.ensures.bound

pub returns-clause-positions : goal.returns-clause-positions
returns-clause-positions c =
    input-positions c.args.pkg.now c.variable.new.self c.args.level c.args.bound.now c.bind.new.self c.args.input.now c.in_ok-f.f
    (among-place c.args.bound.now c.args.input.now c.place.result false c.place.ensures (sym c.is_some.ensures ∙ c.if-is_some.false))
    c.in_ok-bind.ensures.bound c.requires.positions c.in_ok-f.ensures.kept
    (subst (λ n. Means c.variable.new.self c.in_ok-f.f (variable c.args.level n)) c.len-2.ensures c.in_ok-f.ensures.means)
