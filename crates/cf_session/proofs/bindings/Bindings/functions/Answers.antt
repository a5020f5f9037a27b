use Rattle.std.proofs.Common.{sym, ap, ◌∙◌, map}
use Rattle.cf_session.proofs.NameFacts.{functions-zip}
use Rattle.cf_session.proofs.bindings.Bindings.functions.Goals as goal

pub returns : goal.returns
returns c =
    c.as_slice.ensures.value ∙ sym (functions-zip c.self.inside.names c.self.inside.functions.items c.self.invariant.0)
    ∙ ap (λ bound. map (λ b. b.1) bound) c.self.view_is
