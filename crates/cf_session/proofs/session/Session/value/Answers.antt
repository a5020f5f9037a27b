use Rattle.std.proofs.Common.{◌≡◌, sym, ◌∙◌, ap, refl, subst}
use Rattle.cf_reference.specs.Trees.{Value}
use Rattle.std.proofs.Common.{ℤ, Some}
use Rattle.std.specs.Int.{w128}
use Rattle.std.proofs.lemmas.Int.{to_z-of_z}
use Rattle.cf_model.specs.Assignments.{bits}
use Rattle.cf_model.specs.FlatFunctions.{value_at}
use Rattle.cf_pkg.specs.Packages.{meaning}
use Rattle.cf_reference.specs.Replies.{value_reply}
use Rattle.cf_reference.specs.Carrying.{Refuses, Goes, tell_value}
use Rattle.cf_session.specs.Faults.{reason_of}
use Rattle.cf_session.specs.Sessions.{state_of}
use Rattle.cf_session.proofs.WalkFacts.{handed-on}
use Rattle.cf_session.proofs.AnswerFacts.{flat-fits, unknown-refused, value-goes, value-bits}
use Rattle.cf_session.proofs.session.Session.value.Goals as goal
use Rattle.cf_session.proofs.session.Session.value.Goals.{After-value_text}

pub returns-in_err-f-clause-refused : goal.returns-in_err-f-clause-refused
returns-in_err-f-clause-refused c =
    handed-on c.from_residual.result c.in_err-f.field-0.0 (λ r. tell_value (state_of c.args.self.now) c.args.name.now c.args.bits.now ≡ Refuses (reason_of r)) c.from_residual.ensures.1
    (unknown-refused c.args.self.now (Value c.args.name.now c.args.bits.now) c.args.name.now c.in_err-f.field-0.0 c.requires.set refl c.in_err-f.ensures.unknown)

pub returns-in_default-clause-refused : goal.returns-in_default-clause-refused
returns-in_default-clause-refused c =
    value-bits c.args.self.now c.args.name.now c.args.bits.now c.in_ok-f.f c.requires.set c.in_ok-f.ensures.named c.in_default.ensures.none

there : (c : After-value_text) → value_at (meaning c.args.self.now.pkg c.in_ok-f.f) (bits c.in-Some.at) ≡ Some c.value_there.result
there c =
    subst (λ h. value_at (meaning h.pkg c.in_ok-f.f) (bits c.in-Some.at) ≡ Some c.value_there.result) c.self.view_is c.value_there.ensures

pub returns-clause-goes : goal.returns-clause-goes
returns-clause-goes c =
    value-goes c.args.self.now c.args.name.now c.args.bits.now c.in_ok-f.f c.in-Some.at c.value_there.result c.requires.set c.in_ok-f.ensures.named c.in-Some.ensures.spelled c.in-Some.ensures.found
    (there c)
    ∙ ap (Goes (state_of c.args.self.now)) (ap (λ (z : ℤ). value_reply z) (sym (to_z-of_z w128 c.value_there.result (flat-fits (meaning c.args.self.now.pkg c.in_ok-f.f) (bits c.in-Some.at) c.value_there.result c.in_ok-f.ensures.named.flat (there c)))) ∙ sym c.value_text.ensures)
