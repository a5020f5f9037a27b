use Rattle.std.proofs.Common.{sym, ap, ◌∙◌}
use Rattle.cf_session.specs.Bindings.{place_in}
use Rattle.cf_session.proofs.NameFacts.{place-zip}
use Rattle.cf_session.proofs.bindings.Bindings.place.Goals as goal

pub returns-in_err-place : goal.returns-in_err-place
returns-in_err-place c =
    c.from_residual.ensures ∙ sym c.in_err-place.was ∙ c.find.ensures.number
    ∙ place-zip c.self.inside.names c.self.inside.functions.items c.args.name.now c.self.invariant.0
    ∙ ap (λ bound. place_in bound c.args.name.now) c.self.view_is

pub returns : goal.returns
returns c =
    sym c.in_ok-place.was ∙ c.find.ensures.number
    ∙ place-zip c.self.inside.names c.self.inside.functions.items c.args.name.now c.self.invariant.0
    ∙ ap (λ bound. place_in bound c.args.name.now) c.self.view_is
