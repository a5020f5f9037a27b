use Rattle.std.proofs.Common.{sym, subst, refl}
use Rattle.cf_pkg.specs.Packages.{meaning}
use Rattle.cf_reference.specs.Trees.{Named}
use Rattle.cf_session.specs.Sessions.{state_of}
use Rattle.cf_session.specs.Walks.{HasLevel}
use Rattle.cf_session.proofs.WalkFacts.{none-is, named-level, named-refused}
use Rattle.cf_session.proofs.session.Session.walk_named.Goals as goal

pub returns-in-Some-clause-level : goal.returns-in-Some-clause-level
returns-in-Some-clause-level c =
    subst (λ l. HasLevel (state_of c.args.self.now) (Named c.args.name.now) l) (sym c.level_of.ensures)
    (named-level (state_of c.args.self.now) c.args.name.now (meaning c.args.self.now.pkg c.in-Some.f) c.in-Some.ensures.means)

pub returns-in-None-clause-refused : goal.returns-in-None-clause-refused
returns-in-None-clause-refused c =
    named-refused (state_of c.args.self.now) c.args.name.now (none-is _ (c.in-None.ensures.none.0 refl))
