use Rattle.std.proofs.Common.{sym, ap, ◌∙◌, subst}
use Rattle.std.specs.Prelude.{IsSome}
use Rattle.cf_pkg.specs.Packages.{OwnsFunction}
use Rattle.cf_reference.specs.States.{is_among}
use Rattle.cf_session.specs.Sessions.{names_of}
use Rattle.cf_session.proofs.StatementFacts.{held-functions, flat-bind}
use Rattle.cf_session.proofs.session.Session.bind_function.Goals as goal

pub invariant_of-self-2 : goal.invariant_of-self-2
invariant_of-self-2 c =
    held-functions (record { pkg = c.self.inside.pkg; level = c.self.inside.level; variables = c.self.inside.variables; functions = c.self.inside.functions }) c.bind.new.self c.args.name.now c.args.f c.self.invariant
    (subst (λ h. IsSome h.level) (sym c.self.view_is) c.requires.set)
    (subst (λ h. OwnsFunction h.pkg c.args.f) (sym c.self.view_is) c.requires.owned)
    (ap (λ h. is_among (names_of h.variables) c.args.name.now) c.self.view_is ∙ c.requires.free) c.in_ok-bind.ensures.bound

pub returns-clause-bound : goal.returns-clause-bound
returns-clause-bound c =
    flat-bind (record { pkg = c.self.inside.pkg; level = c.self.inside.level; variables = c.self.inside.variables; functions = c.self.inside.functions }) c.args.self.now c.bind.new.self c.args.name.now c.args.f c.self.view_is
    c.in_ok-bind.ensures.bound
