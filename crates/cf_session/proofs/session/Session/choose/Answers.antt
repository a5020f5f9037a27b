use Rattle.std.proofs.Common.{refl}
use Rattle.cf_session.proofs.Growth.{held, grown_from, flat}
use Rattle.cf_session.proofs.Kept.{again_ok, again_err}
use Rattle.cf_session.proofs.session.Session.choose.Goals as goal

pub invariant_of-self : goal.invariant_of-self
invariant_of-self c = held _ _ c.self.invariant c.choose_uncounted.ensures.kept

pub returns-in_err-r-clause-grows : goal.returns-in_err-r-clause-grows
returns-in_err-r-clause-grows c = grown_from _ _ _ c.self.view_is c.self.invariant c.choose_uncounted.ensures.kept

pub invariant_of-self-2 : goal.invariant_of-self-2
invariant_of-self-2 c = held _ _ c.self.invariant c.choose_uncounted.ensures.kept

pub returns-clause-flat : goal.returns-clause-flat
returns-clause-flat c = flat c.choose_uncounted.new.pkg c.in_ok-r.r c.law.ensures.good c.law.ensures.level c.law.ensures.function

pub returns-clause-grows : goal.returns-clause-grows
returns-clause-grows c = grown_from _ _ _ c.self.view_is c.self.invariant c.choose_uncounted.ensures.kept

pub returns-in_err-r-clause-again : goal.returns-in_err-r-clause-again
returns-in_err-r-clause-again c = again_err _ _ c.self.view_is _ _ _ _ _ c.in_err-r.was c.choose_uncounted.ensures.finished

pub returns-clause-again : goal.returns-clause-again
returns-clause-again c = again_ok _ _ c.self.view_is _ _ _ _ _ c.in_ok-r.was refl c.choose_uncounted.ensures.finished
