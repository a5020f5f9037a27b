use Rattle.std.proofs.Common.{refl, subst, rules}
use Rattle.cf_ops.specs.Operations.{of_one}
use Rattle.cf_pkg.specs.Jobs.{HasValues, map_value}
use Rattle.cf_session.proofs.Growth.{held, grown_from, flat}
use Rattle.cf_session.proofs.Kept.{again_ok, again_err}
use Rattle.cf_session.proofs.session.Session.map.Goals as goal

pub invariant_of-self : goal.invariant_of-self
invariant_of-self c = held _ _ c.self.invariant c.map_word.ensures.kept

pub returns-in_err-r-clause-grows : goal.returns-in_err-r-clause-grows
returns-in_err-r-clause-grows c = grown_from _ _ _ c.self.view_is c.self.invariant c.map_word.ensures.kept

pub invariant_of-self-2 : goal.invariant_of-self-2
invariant_of-self-2 c = held _ _ c.self.invariant c.map_word.ensures.kept

pub returns-clause-flat : goal.returns-clause-flat
returns-clause-flat c = flat c.map_word.new.self c.in_ok-r.r c.law.ensures.good c.law.ensures.level c.law.ensures.function

pub returns-clause-grows : goal.returns-clause-grows
returns-clause-grows c = grown_from _ _ _ c.self.view_is c.self.invariant c.map_word.ensures.kept

pub returns-clause-values : goal.returns-clause-values
returns-clause-values c =
    subst (λ h. HasValues c.map_word.new.self c.in_ok-r.r c.args.f.head.level (map_value h.pkg (of_one c.args.word) c.args.f)) c.self.view_is c.in_ok-r.ensures.outcome.answer.values

pub returns-in_err-r-clause-fault : goal.returns-in_err-r-clause-fault
returns-in_err-r-clause-fault c = (let fact = c.map_word.ensures.outcome.overflow in search (rules, fact))

pub returns-in_err-r-clause-again : goal.returns-in_err-r-clause-again
returns-in_err-r-clause-again c = again_err _ _ c.self.view_is _ _ _ _ _ c.in_err-r.was c.map_word.ensures.finished

pub returns-clause-again : goal.returns-clause-again
returns-clause-again c = again_ok _ _ c.self.view_is _ _ _ _ _ c.in_ok-r.was refl c.map_word.ensures.finished
