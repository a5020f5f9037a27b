use Rattle.std.proofs.Common.{subst}
use Rattle.cf_model.specs.FlatFunctions.{IsFlatFunction}
use Rattle.cf_pkg.specs.Packages.{meaning}
use Rattle.cf_session.proofs.Growth.{flat}
use Rattle.cf_session.proofs.session.Session.ask.Goals as goal

pub returns-in-Some-clause-named : goal.returns-in-Some-clause-named
returns-in-Some-clause-named c = record {
  owned = c.in-Some.ensures.owned;
  means = c.in-Some.ensures.means;
  flat = subst (λ h. IsFlatFunction (meaning h.pkg c.in-Some.f)) c.self.view_is (flat c.self.inside.pkg c.in-Some.f c.law.ensures.good c.law.ensures.level c.law.ensures.function);
}
