use Rattle.std.proofs.Common.{subst, ap, refl}
use Rattle.cf_model.specs.FlatFunctions.{IsFlatFunction}
use Rattle.cf_pkg.specs.Packages.{Package, meaning}
use Rattle.cf_session.specs.Sessions.{Held, state_of}
use Rattle.cf_session.proofs.Built.{name_built}
use Rattle.cf_session.proofs.Growth.{flat}
use Rattle.cf_session.proofs.Walked.{walked_named}
use Rattle.cf_session.proofs.Kept.{name_again}
use Rattle.cf_session.proofs.session.Session.named.Goals as goal

pub returns-in-Some-clause-built : goal.returns-in-Some-clause-built
returns-in-Some-clause-built c =
    name_built (state_of c.args.self.now) c.args.name.now c.args.self.now.pkg c.in-Some.f c.in-Some.ensures.owned c.in-Some.ensures.means
    (subst (λ (p : Package). IsFlatFunction (meaning p c.in-Some.f)) (ap (λ (h : Held). h.pkg) c.self.view_is) (flat c.self.inside.pkg c.in-Some.f c.law.ensures.good c.law.ensures.level c.law.ensures.function))

pub returns-in-None-clause-fault : goal.returns-in-None-clause-fault
returns-in-None-clause-fault c = walked_named (state_of c.args.self.now) c.args.name.now c.requires.walked (c.in-None.ensures.none.0 refl)

pub returns-in-Some-clause-kept : goal.returns-in-Some-clause-kept
returns-in-Some-clause-kept c = record { owned = c.in-Some.ensures.owned; means = c.in-Some.ensures.means }

pub returns-in-Some-clause-again : goal.returns-in-Some-clause-again
returns-in-Some-clause-again c = name_again c.args.self.now c.args.name.now c.in-Some.f c.in-Some.ensures.one

pub returns-in-None-clause-again : goal.returns-in-None-clause-again
returns-in-None-clause-again c f stands = absurd (walked_named (state_of c.args.self.now) c.args.name.now c.requires.walked (c.in-None.ensures.none.0 refl))
