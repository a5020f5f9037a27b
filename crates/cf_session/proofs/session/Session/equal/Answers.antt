use Rattle.std.proofs.Common.{◌∙◌, ap, inl, inr}
use Rattle.cf_reference.specs.Carrying.{tell_equal}
use Rattle.cf_reference.specs.Answers.{equal_answer}
use Rattle.cf_pkg.specs.Packages.{meaning}
use Rattle.cf_session.specs.declared.faults.StepFault.{StepFault}
use Rattle.cf_session.specs.Sessions.{state_of}
use Rattle.cf_session.specs.Statements.{IsFaultOfStep}
use Rattle.cf_session.proofs.WalkFacts.{handed-on}
use Rattle.cf_session.proofs.Growth.{held, grown_from}
use Rattle.cf_session.proofs.AnswerFacts.{unknown-equal, equal-levels, equal-goes}
use Rattle.cf_session.proofs.session.Session.equal.Goals as goal

pub returns-in_err-f-clause-fault : goal.returns-in_err-f-clause-fault
returns-in_err-f-clause-fault c =
    handed-on c.from_residual.result (StepFault.Refused c.in_err-f.field-0.0) (IsFaultOfStep (tell_equal (state_of c.args.self.now) c.args.name.now c.args.other.now)) c.from_residual.ensures.1
    (unknown-equal c.args.self.now c.args.name.now c.args.other.now c.in_err-f.field-0.0 c.requires.set (inl c.in_err-f.ensures.unknown))

pub returns-in_err-g-clause-fault : goal.returns-in_err-g-clause-fault
returns-in_err-g-clause-fault c =
    handed-on c.from_residual-in_err-g.result (StepFault.Refused c.in_err-g.field-0.0) (IsFaultOfStep (tell_equal (state_of c.args.self.now) c.args.name.now c.args.other.now)) c.from_residual-in_err-g.ensures.1
    (unknown-equal c.args.self.now c.args.name.now c.args.other.now c.in_err-g.field-0.0 c.requires.set (inr c.in_err-g.ensures.unknown))

pub returns-then-f-g-clause-fault : goal.returns-then-f-g-clause-fault
returns-then-f-g-clause-fault c =
    equal-levels c.args.self.now c.args.name.now c.args.other.now c.in_ok-f.f c.in_ok-g.g c.requires.set c.in_ok-f.ensures.named c.in_ok-g.ensures.named c.if-f-g.true

pub invariant_of-self : goal.invariant_of-self
invariant_of-self c = held (record { pkg = c.self.inside.pkg; level = c.self.inside.level; variables = c.self.inside.variables; functions = c.self.inside.functions }) c.difference.new.pkg c.self.invariant c.difference.ensures.kept

pub returns-in_err-difference-clause-same : goal.returns-in_err-difference-clause-same
returns-in_err-difference-clause-same c = grown_from (record { pkg = c.self.inside.pkg; level = c.self.inside.level; variables = c.self.inside.variables; functions = c.self.inside.functions }) c.args.self.now c.difference.new.pkg c.self.view_is c.self.invariant c.difference.ensures.kept

pub invariant_of-self-2 : goal.invariant_of-self-2
invariant_of-self-2 c = held (record { pkg = c.self.inside.pkg; level = c.self.inside.level; variables = c.self.inside.variables; functions = c.self.inside.functions }) c.difference.new.pkg c.self.invariant c.difference.ensures.kept

pub returns-clause-goes : goal.returns-clause-goes
returns-clause-goes c =
    equal-goes c.args.self.now c.args.name.now c.args.other.now c.in_ok-f.f c.in_ok-g.g c.difference.new.text c.requires.set c.in_ok-f.ensures.named c.in_ok-g.ensures.named c.if-f-g.false
    (c.in_ok-difference.ensures.answer ∙ ap (λ h. equal_answer (meaning h.pkg c.in_ok-f.f) (meaning h.pkg c.in_ok-g.g)) c.self.view_is)

pub returns-clause-same : goal.returns-clause-same
returns-clause-same c = grown_from (record { pkg = c.self.inside.pkg; level = c.self.inside.level; variables = c.self.inside.variables; functions = c.self.inside.functions }) c.args.self.now c.difference.new.pkg c.self.view_is c.self.invariant c.difference.ensures.kept
