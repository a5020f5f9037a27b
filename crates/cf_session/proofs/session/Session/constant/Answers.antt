use Rattle.std.proofs.Common.{refl}
use Rattle.std.proofs.lemmas.Int.{to_z-of_z}
use mir.Syntax.{w128}
use Rattle.cf_session.proofs.Growth.{held, grown_from, flat}
use Rattle.cf_session.proofs.Kept.{const_ok, const_err}
use Rattle.cf_session.proofs.session.Session.constant.Goals as goal

pub invariant_of-self : goal.invariant_of-self
invariant_of-self c = held _ _ c.self.invariant c.constant.ensures.kept

pub returns-in_err-f-clause-grows : goal.returns-in_err-f-clause-grows
returns-in_err-f-clause-grows c = grown_from _ _ _ c.self.view_is c.self.invariant c.constant.ensures.kept

pub invariant_of-self-2 : goal.invariant_of-self-2
invariant_of-self-2 c = held _ _ c.self.invariant c.constant.ensures.kept

pub returns-clause-flat : goal.returns-clause-flat
returns-clause-flat c = flat c.constant.new.self c.in_ok-f.f c.law.ensures.good c.law.ensures.level c.law.ensures.function

pub returns-clause-grows : goal.returns-clause-grows
returns-clause-grows c = grown_from _ _ _ c.self.view_is c.self.invariant c.constant.ensures.kept

pub returns-in_err-f-clause-again : goal.returns-in_err-f-clause-again
returns-in_err-f-clause-again c =
    const_err _ _ c.self.view_is _ _ _ _ _ _ _ (to_z-of_z w128 c.args.v c.ranges.v) c.in_err-f.was c.constant.ensures.finished

pub returns-clause-again : goal.returns-clause-again
returns-clause-again c =
    const_ok _ _ c.self.view_is _ _ _ _ _ _ _ (to_z-of_z w128 c.args.v c.ranges.v) c.in_ok-f.was refl c.constant.ensures.finished
