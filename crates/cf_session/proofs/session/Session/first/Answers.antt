use Rattle.std.proofs.Common.{◌≡◌, sym, ◌∙◌, ap, refl, subst}
use Rattle.cf_reference.specs.Trees.{First}
use Rattle.std.specs.Int.{w128}
use Rattle.std.proofs.lemmas.Int.{to_z-of_z}
use Rattle.std.proofs.Common.{ℤ, List, Bool, Some}
use Rattle.cf_model.specs.Assignments.{bits}
use Rattle.cf_model.specs.FlatFunctions.{IsAssignment, IsLeast, value_at}
use Rattle.cf_pkg.specs.Packages.{meaning}
use Rattle.cf_reference.specs.Carrying.{Refuses, Goes, tell_first}
use Rattle.cf_session.specs.Faults.{reason_of}
use Rattle.cf_session.specs.Sessions.{state_of}
use Rattle.cf_session.proofs.WalkFacts.{handed-on}
use Rattle.cf_session.proofs.AnswerFacts.{unknown-refused, first-goes, first-none}
use Rattle.cf_session.proofs.session.Session.first.Goals as goal

pub returns-in_err-f-clause-refused : goal.returns-in_err-f-clause-refused
returns-in_err-f-clause-refused c =
    handed-on c.from_residual.result c.in_err-f.field-0.0 (λ r. tell_first (state_of c.args.self.now) c.args.name.now c.args.v ≡ Refuses (reason_of r)) c.from_residual.ensures.1
    (unknown-refused c.args.self.now (First c.args.name.now c.args.v) c.args.name.now c.in_err-f.field-0.0 c.requires.set refl c.in_err-f.ensures.unknown)

pub returns-in-Some-clause-goes : goal.returns-in-Some-clause-goes
returns-in-Some-clause-goes c =
    first-goes c.args.self.now c.args.name.now c.args.v c.in_ok-f.f (bits c.in-Some.at) c.requires.set c.in_ok-f.ensures.named
    (subst (λ h. IsLeast c.in_ok-f.f.head.level (λ a. value_at (meaning h.pkg c.in_ok-f.f) a ≡ Some c.args.v) (bits c.in-Some.at)) c.self.view_is
    (subst (λ (z : ℤ). IsLeast c.in_ok-f.f.head.level (λ a. value_at (meaning c.self.inside.pkg c.in_ok-f.f) a ≡ Some z) (bits c.in-Some.at)) (to_z-of_z w128 c.args.v c.ranges.v) c.in-Some.ensures.least))
    ∙ ap (Goes (state_of c.args.self.now)) (sym c.bits_text.ensures)

pub returns-in-None-clause-goes : goal.returns-in-None-clause-goes
returns-in-None-clause-goes c =
    first-none c.args.self.now c.args.name.now c.args.v c.in_ok-f.f c.requires.set c.in_ok-f.ensures.named
    (subst (λ h. (a : List Bool) → IsAssignment c.in_ok-f.f.head.level a → value_at (meaning h.pkg c.in_ok-f.f) a ≡ Some c.args.v → ⊥) c.self.view_is
    (subst (λ (z : ℤ). (a : List Bool) → IsAssignment c.in_ok-f.f.head.level a → value_at (meaning c.self.inside.pkg c.in_ok-f.f) a ≡ Some z → ⊥) (to_z-of_z w128 c.args.v c.ranges.v) c.in-None.ensures.none))
    ∙ ap (Goes (state_of c.args.self.now)) (sym c.none_text.ensures)
