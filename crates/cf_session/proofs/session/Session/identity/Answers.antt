use Rattle.std.proofs.Common.{rules, refl, ap, subst, ◌∙◌, Ok, Some}
use Rattle.std.specs.Prelude.{nat_abs}
use Rattle.cf_model.specs.Matrices.{identity}
use mir.Val.{SFits}
use Rattle.std.specs.Int.{w128}
use Rattle.std.proofs.lemmas.Int.{to_z-of_z}
use Rattle.cf_pkg.specs.Tasks as task
use Rattle.cf_pkg.specs.Jobs.{HasValues}
use Rattle.cf_reference.specs.declared.grammar.Head.TheVariants.{Id}
use Rattle.cf_session.proofs.Growth.{held, grown_from, flat}
use Rattle.cf_session.proofs.Jobs.{calls_told}
use Rattle.cf_session.proofs.Kept.{job_answered, again_ok, again_err}
use Rattle.cf_session.proofs.MatrixLaws.{id_calls}
use Rattle.cf_session.proofs.session.Session.identity.Goals as goal

pub invariant_of-self : goal.invariant_of-self
invariant_of-self c = held _ _ c.self.invariant c.identity.ensures.kept

pub returns-in_err-r-clause-grows : goal.returns-in_err-r-clause-grows
returns-in_err-r-clause-grows c = grown_from _ _ _ c.self.view_is c.self.invariant c.identity.ensures.kept

pub invariant_of-self-2 : goal.invariant_of-self-2
invariant_of-self-2 c = held _ _ c.self.invariant c.identity.ensures.kept

pub returns-clause-grows : goal.returns-clause-grows
returns-clause-grows c = grown_from _ _ _ c.self.view_is c.self.invariant c.identity.ensures.kept

pub returns-clause-calls : goal.returns-clause-calls
returns-clause-calls c =
    let j = c.one_number.result in
    let fits : SFits w128 c.one_number.result = search rules in
    let same = c.unsigned_abs-level.ensures.value ∙ ap nat_abs (to_z-of_z w128 j fits) in
    calls_told Id Id c.args.args.now _ c.args.self.now.pkg c.identity.new.pkg c.in_ok-r.r refl c.one_number.ensures
    (id_calls c.identity.new.pkg c.in_ok-r.r j (subst (λ l. HasValues c.identity.new.pkg c.in_ok-r.r l (λ bits. Some (identity bits))) same c.in_ok-r.ensures.values)
    (flat c.identity.new.pkg c.in_ok-r.r c.law.ensures.good c.law.ensures.level c.law.ensures.function))

pub returns-in_err-r-clause-again : goal.returns-in_err-r-clause-again
returns-in_err-r-clause-again c =
    let j = c.one_number.result in
    let fits : SFits w128 c.one_number.result = search rules in
    let same = c.unsigned_abs-level.ensures.value ∙ ap nat_abs (to_z-of_z w128 j fits) in
    job_answered c.args.self.now _ Id Id c.args.args.now _ _ _ c.from_residual.result refl c.one_number.ensures refl (ap task.Id same)
    (grown_from _ _ _ c.self.view_is c.self.invariant c.identity.ensures.kept) (again_err _ _ c.self.view_is _ _ _ _ _ c.in_err-r.was c.identity.ensures.finished)

pub returns-clause-again : goal.returns-clause-again
returns-clause-again c =
    let j = c.one_number.result in
    let fits : SFits w128 c.one_number.result = search rules in
    let same = c.unsigned_abs-level.ensures.value ∙ ap nat_abs (to_z-of_z w128 j fits) in
    job_answered c.args.self.now _ Id Id c.args.args.now _ _ _ (Ok c.in_ok-r.r) refl c.one_number.ensures refl (ap task.Id same)
    (grown_from _ _ _ c.self.view_is c.self.invariant c.identity.ensures.kept) (again_ok _ _ c.self.view_is _ _ _ _ _ c.in_ok-r.was refl c.identity.ensures.finished)
