use Rattle.std.proofs.Common.{sym, ◌∙◌, ap, refl}
use Rattle.cf_reference.specs.Trees.{Listed}
use Rattle.std.proofs.Common.{ℤ}
use Rattle.std.specs.Prelude.{take, nat_abs}
use mir.Val.{to_z, of_z}
use Rattle.std.specs.Int.{w128}
use Rattle.std.proofs.lemmas.Int.{to_z-of_z}
use Rattle.cf_witness.specs.Witnesses.{assignments_of}
use Rattle.cf_pkg.specs.Packages.{meaning}
use Rattle.cf_reference.specs.Carrying.{lists, tell_list}
use Rattle.cf_session.specs.declared.faults.StepFault.{StepFault}
use Rattle.cf_session.specs.Sessions.{state_of}
use Rattle.cf_session.specs.Statements.{IsFaultOfStep}
use Rattle.cf_session.proofs.WalkFacts.{handed-on}
use Rattle.cf_session.proofs.AnswerFacts.{unknown-refused, listed-goes, listed-most}
use Rattle.cf_session.proofs.session.Session.list.Goals as goal

pub returns-in_err-f-clause-fault : goal.returns-in_err-f-clause-fault
returns-in_err-f-clause-fault c =
    handed-on c.from_residual.result (StepFault.Refused c.in_err-f.field-0.0) (IsFaultOfStep (tell_list (state_of c.args.self.now) c.args.name.now c.args.v c.args.most)) c.from_residual.ensures.1
    (unknown-refused c.args.self.now (Listed c.args.name.now c.args.v c.args.most) c.args.name.now c.in_err-f.field-0.0 c.requires.set refl c.in_err-f.ensures.unknown)

pub returns-then-not-lists-clause-fault : goal.returns-then-not-lists-clause-fault
returns-then-not-lists-clause-fault c =
    listed-most c.args.self.now c.args.name.now c.args.v c.args.most c.in_ok-f.f c.requires.set c.in_ok-f.ensures.named
    (ap (λ (z : ℤ). lists z) (sym (to_z-of_z w128 c.args.most c.ranges.most)) ∙ sym c.lists.ensures ∙ c.if-not-lists.true)

pub returns-clause-goes : goal.returns-clause-goes
returns-clause-goes c =
    listed-goes c.args.self.now c.args.name.now c.args.v c.args.most c.in_ok-f.f c.in_ok-new.field-0 c.requires.set c.in_ok-f.ensures.named
    (ap (λ (z : ℤ). lists z) (sym (to_z-of_z w128 c.args.most c.ranges.most)) ∙ sym c.lists.ensures ∙ c.if-not-lists.false)
    (c.in_ok-new.ensures.listed ∙ ap (λ (z : ℤ). take (nat_abs (to_z w128 (of_z w128 c.args.most))) (assignments_of (meaning c.self.inside.pkg c.in_ok-f.f) z)) (to_z-of_z w128 c.args.v c.ranges.v) ∙ ap (λ (z : ℤ). take (nat_abs z) (assignments_of (meaning c.self.inside.pkg c.in_ok-f.f) c.args.v)) (to_z-of_z w128 c.args.most c.ranges.most) ∙ ap (λ h. take (nat_abs c.args.most) (assignments_of (meaning h.pkg c.in_ok-f.f) c.args.v)) c.self.view_is)
