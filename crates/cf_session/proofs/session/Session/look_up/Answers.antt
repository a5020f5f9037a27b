use Rattle.std.proofs.Common.{None, ◌≡◌, sym, ◌∙◌, ap}
use Rattle.cf_session.specs.Bindings.{bound_to}
use Rattle.cf_session.specs.Sessions.{StandsFor}
use Rattle.cf_session.proofs.NamedFacts.{named-variable, some-named, stands-owned, stands-means, stands-none}
use Rattle.cf_session.proofs.session.Session.look_up.Goals as goal
use Rattle.cf_session.proofs.session.Session.look_up.Goals.{In-Some, After-find-in-None}

variable : (c : In-Some) → StandsFor c.args.self.now c.args.name.now c.in-Some.f
variable c =
    named-variable c.args.self.now c.law.ensures c.args.name.now c.in-Some.f
    (ap (λ h. bound_to h.variables c.args.name.now) (sym c.self.view_is) ∙ sym c.in-Some.ensures)

none : (c : After-find-in-None) → bound_to c.args.self.now.variables c.args.name.now ≡ None
none c = ap (λ h. bound_to h.variables c.args.name.now) (sym c.self.view_is) ∙ sym c.find.ensures ∙ c.in-None.is

other : (c : After-find-in-None) → bound_to c.args.self.now.functions c.args.name.now ≡ c.find-in-None.result
other c = ap (λ h. bound_to h.functions c.args.name.now) (sym c.self.view_is) ∙ sym c.find-in-None.ensures

pub returns-in-Some-clause-owned : goal.returns-in-Some-clause-owned
returns-in-Some-clause-owned c = (variable c).owned

pub returns-in-Some-clause-means : goal.returns-in-Some-clause-means
returns-in-Some-clause-means c = (variable c).means

pub returns-in-Some-clause-none : goal.returns-in-Some-clause-none
returns-in-Some-clause-none c = some-named _ _ (variable c).means

pub returns-in-None-clause-owned : goal.returns-in-None-clause-owned
returns-in-None-clause-owned c = stands-owned c.args.self.now c.law.ensures c.args.name.now c.find-in-None.result (none c) (other c)

pub returns-in-None-clause-means : goal.returns-in-None-clause-means
returns-in-None-clause-means c = stands-means c.args.self.now c.law.ensures c.args.name.now c.find-in-None.result (none c) (other c)

pub returns-in-None-clause-none : goal.returns-in-None-clause-none
returns-in-None-clause-none c = stands-none c.args.self.now c.args.name.now c.find-in-None.result (none c) (other c)
