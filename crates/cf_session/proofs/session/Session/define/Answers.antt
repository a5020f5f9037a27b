use Rattle.std.proofs.Common.{sym, ap, ◌∙◌}
use Rattle.cf_reference.specs.States.{State, is_among}
use Rattle.cf_reference.specs.Carrying.{define}
use Rattle.cf_script.specs.Views.{tree_of}
use Rattle.cf_session.specs.Sessions.{state_of}
use Rattle.cf_session.specs.Statements.{IsFaultOfStep}
use Rattle.cf_session.proofs.WalkFacts.{handed-on}
use Rattle.cf_session.proofs.StepFacts.{let-taken, let-fault, let-goes}
use Rattle.cf_session.proofs.session.Session.define.Goals as goal

pub returns-then-is_variable-clause-fault : goal.returns-then-is_variable-clause-fault
returns-then-is_variable-clause-fault c =
    let-taken c.args.self.now c.args.name.now (tree_of c.args.expr.now) c.requires.set (sym c.is_variable.ensures ∙ c.if-is_variable.true)

pub returns-in_err-f-clause-fault : goal.returns-in_err-f-clause-fault
returns-in_err-f-clause-fault c =
    handed-on c.from_residual.result c.in_err-f.field-0.0 (IsFaultOfStep (define (state_of c.args.self.now) c.args.name.now (tree_of c.args.expr.now))) c.from_residual.ensures.1
    (let-fault c.args.self.now c.args.name.now (tree_of c.args.expr.now) c.in_err-f.field-0.0 c.requires.set (sym c.is_variable.ensures ∙ c.if-is_variable.false) c.in_err-f.ensures.fault)

pub bind_function-requires-clause-free : goal.bind_function-requires-clause-free
bind_function-requires-clause-free c =
    ap (λ (s : State). is_among s.variables c.args.name.now) c.build.ensures.grows.state ∙ sym c.is_variable.ensures ∙ c.if-is_variable.false

pub returns-clause-goes : goal.returns-clause-goes
returns-clause-goes c =
    let-goes c.args.self.now c.build.new.self c.bind_function.new.self c.args.name.now (tree_of c.args.expr.now) c.in_ok-f.f c.requires.set
    (sym c.is_variable.ensures ∙ c.if-is_variable.false) c.in_ok-f.ensures.goes c.in_ok-f.ensures.means c.build.ensures.grows
    c.bind_function.ensures.level c.bind_function.ensures.variables c.in_ok-bind_function.ensures.bound
