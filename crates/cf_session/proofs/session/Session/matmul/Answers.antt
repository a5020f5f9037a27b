use Rattle.std.proofs.Common.{refl, subst, ◌-◌, ◌^◌, [], ◌∷◌, Ok}
use Rattle.std.proofs.lemmas.Result.{IfErr-weaker}
use Rattle.cf_model.specs.Matrices.{product}
use Rattle.cf_pkg.specs.Jobs.{HasValues, IsLeastWithout, value_in}
use Rattle.cf_reference.specs.declared.grammar.Head.TheVariants.{Matmul}
use Rattle.cf_session.specs.declared.values.Value.TheVariants.{Function}
use Rattle.cf_session.specs.Sessions.{Held}
use Rattle.cf_session.proofs.Growth.{held, grown_from, flat}
use Rattle.cf_session.proofs.Jobs.{calls_told, fault_told}
use Rattle.cf_session.proofs.Kept.{job_answered, again_ok, again_err}
use Rattle.cf_session.proofs.MatrixLaws.{matmul_calls}
use Rattle.cf_session.proofs.OverFacts.{fault_is}
use Rattle.cf_session.proofs.ProductFaults.{matmul_fails_in}
use Rattle.cf_session.proofs.session.Session.matmul.Goals as goal

pub invariant_of-self : goal.invariant_of-self
invariant_of-self c = held _ _ c.self.invariant c.matmul.ensures.kept

pub returns-in_err-r-clause-grows : goal.returns-in_err-r-clause-grows
returns-in_err-r-clause-grows c = grown_from _ _ _ c.self.view_is c.self.invariant c.matmul.ensures.kept

pub invariant_of-self-2 : goal.invariant_of-self-2
invariant_of-self-2 c = held _ _ c.self.invariant c.matmul.ensures.kept

pub returns-clause-grows : goal.returns-clause-grows
returns-clause-grows c = grown_from _ _ _ c.self.view_is c.self.invariant c.matmul.ensures.kept

pub returns-clause-calls : goal.returns-clause-calls
returns-clause-calls c =
    let f = c.two_functions.result.0 in
    let g = c.two_functions.result.1 in
    calls_told Matmul Matmul c.args.args.now _ c.args.self.now.pkg c.matmul.new.pkg c.in_ok-r.r refl c.two_functions.ensures
    (matmul_calls c.args.self.now.pkg c.matmul.new.pkg f g c.in_ok-r.r (subst (λ (x : Held). HasValues c.matmul.new.pkg c.in_ok-r.r f.head.level (product (2 ^ (f.head.level - 1)) (value_in x.pkg f) (value_in x.pkg g))) c.self.view_is c.in_ok-r.ensures.values)
    (flat c.matmul.new.pkg c.in_ok-r.r c.law.ensures.good c.law.ensures.level c.law.ensures.function))

pub returns-in_err-r-clause-again : goal.returns-in_err-r-clause-again
returns-in_err-r-clause-again c =
    job_answered c.args.self.now _ Matmul Matmul c.args.args.now _ _ _ c.from_residual.result refl c.two_functions.ensures refl refl
    (grown_from _ _ _ c.self.view_is c.self.invariant c.matmul.ensures.kept) (again_err _ _ c.self.view_is _ _ _ _ _ c.in_err-r.was c.matmul.ensures.finished)

pub returns-clause-again : goal.returns-clause-again
returns-clause-again c =
    job_answered c.args.self.now _ Matmul Matmul c.args.args.now _ _ _ (Ok c.in_ok-r.r) refl c.two_functions.ensures refl refl
    (grown_from _ _ _ c.self.view_is c.self.invariant c.matmul.ensures.kept) (again_ok _ _ c.self.view_is _ _ _ _ _ c.in_ok-r.was refl c.matmul.ensures.finished)

pub returns-in_err-r-clause-fault : goal.returns-in_err-r-clause-fault
returns-in_err-r-clause-fault c =
    let p = c.args.self.now.pkg in
    let f = c.two_functions.result.0 in
    let g = c.two_functions.result.1 in
    IfErr-weaker c.from_residual.result _ _
    (λ fault h. fault_told Matmul Matmul c.args.args.now (Function f ∷ Function g ∷ []) p fault refl c.two_functions.ensures
    (matmul_fails_in _ _ c.self.view_is f g fault h))
    (fault_is (IsLeastWithout f.head.level (product (2 ^ (f.head.level - 1)) (value_in c.self.inside.pkg f) (value_in c.self.inside.pkg g))) c.matmul.result _ c.from_residual.result c.in_err-r.was c.matmul.ensures.overflow c.from_residual.ensures.1)
