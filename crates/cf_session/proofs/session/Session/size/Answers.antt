use Rattle.std.proofs.Common.{sym, ◌∙◌, ap, refl}
use Rattle.cf_reference.specs.Trees.{Size}
use Rattle.std.proofs.Common.{[], ◌∷◌, length}
use Rattle.std.specs.Ordering.{int_eq}
use Rattle.cf_model.specs.Renumbering.{distinct}
use Rattle.cf_model.specs.Patterns.{pattern_of, sizes}
use Rattle.cf_pkg.specs.Packages.{meaning}
use Rattle.cf_reference.specs.Carrying.{Goes, tell_size}
use Rattle.cf_session.specs.declared.faults.StepFault.{StepFault}
use Rattle.cf_session.specs.Sessions.{state_of}
use Rattle.cf_session.specs.Statements.{IsFaultOfStep}
use Rattle.cf_session.proofs.WalkFacts.{handed-on}
use Rattle.cf_session.proofs.AnswerFacts.{unknown-refused, size-goes}
use Rattle.cf_session.proofs.session.Session.size.Goals as goal

pub returns-in_err-f-clause-fault : goal.returns-in_err-f-clause-fault
returns-in_err-f-clause-fault c =
    handed-on c.from_residual.result (StepFault.Refused c.in_err-f.field-0.0) (IsFaultOfStep (tell_size (state_of c.args.self.now) c.args.name.now)) c.from_residual.ensures.1
    (unknown-refused c.args.self.now (Size c.args.name.now) c.args.name.now c.in_err-f.field-0.0 c.requires.set refl c.in_err-f.ensures.unknown)

pub returns-clause-goes : goal.returns-clause-goes
returns-clause-goes c =
    size-goes c.args.self.now c.args.name.now c.in_ok-f.f c.in_ok-sizes.sizes.per_level c.in_ok-sizes.sizes.exits c.requires.set c.in_ok-f.ensures.named
    (c.in_ok-sizes.ensures.per_level ∙ ap (λ h. sizes (pattern_of (meaning h.pkg c.in_ok-f.f) ∷ [])) c.self.view_is)
    (c.in_ok-sizes.ensures.exits ∙ ap (λ h. length (distinct int_eq (meaning h.pkg c.in_ok-f.f).values)) c.self.view_is)
    ∙ ap (Goes (state_of c.args.self.now)) (sym c.size_text.ensures)
