use Rattle.std.proofs.Common.{refl, subst, Ok, Some}
use Rattle.cf_model.specs.Matrices.{transpose}
use Rattle.cf_pkg.specs.Jobs.{HasValues, value_in}
use Rattle.cf_reference.specs.declared.grammar.Head.TheVariants.{Transpose}
use Rattle.cf_session.specs.Sessions.{Held}
use Rattle.cf_session.proofs.Growth.{held, grown_from, flat}
use Rattle.cf_session.proofs.Jobs.{calls_told}
use Rattle.cf_session.proofs.Kept.{job_answered, again_ok, again_err}
use Rattle.cf_session.proofs.MatrixLaws.{transpose_calls}
use Rattle.cf_session.proofs.session.Session.transpose.Goals as goal

pub invariant_of-self : goal.invariant_of-self
invariant_of-self c = held _ _ c.self.invariant c.transpose.ensures.kept

pub returns-in_err-r-clause-grows : goal.returns-in_err-r-clause-grows
returns-in_err-r-clause-grows c = grown_from _ _ _ c.self.view_is c.self.invariant c.transpose.ensures.kept

pub invariant_of-self-2 : goal.invariant_of-self-2
invariant_of-self-2 c = held _ _ c.self.invariant c.transpose.ensures.kept

pub returns-clause-grows : goal.returns-clause-grows
returns-clause-grows c = grown_from _ _ _ c.self.view_is c.self.invariant c.transpose.ensures.kept

pub returns-clause-calls : goal.returns-clause-calls
returns-clause-calls c =
    let f = c.one_function-f.result in
    calls_told Transpose Transpose c.args.args.now _ c.args.self.now.pkg c.transpose.new.pkg c.in_ok-r.r refl c.one_function-f.ensures
    (transpose_calls c.args.self.now.pkg c.transpose.new.pkg f c.in_ok-r.r (subst (λ (x : Held). HasValues c.transpose.new.pkg c.in_ok-r.r f.head.level (λ bits. Some (transpose (value_in x.pkg f) bits))) c.self.view_is c.in_ok-r.ensures.values)
    (flat c.transpose.new.pkg c.in_ok-r.r c.law.ensures.good c.law.ensures.level c.law.ensures.function))

pub returns-in_err-r-clause-again : goal.returns-in_err-r-clause-again
returns-in_err-r-clause-again c =
    job_answered c.args.self.now _ Transpose Transpose c.args.args.now _ _ _ c.from_residual.result refl c.one_function-f.ensures refl refl
    (grown_from _ _ _ c.self.view_is c.self.invariant c.transpose.ensures.kept) (again_err _ _ c.self.view_is _ _ _ _ _ c.in_err-r.was c.transpose.ensures.finished)

pub returns-clause-again : goal.returns-clause-again
returns-clause-again c =
    job_answered c.args.self.now _ Transpose Transpose c.args.args.now _ _ _ (Ok c.in_ok-r.r) refl c.one_function-f.ensures refl refl
    (grown_from _ _ _ c.self.view_is c.self.invariant c.transpose.ensures.kept) (again_ok _ _ c.self.view_is _ _ _ _ _ c.in_ok-r.was refl c.transpose.ensures.finished)
