use Rattle.std.proofs.Common.{◌∷◌, ◌++◌, [], refl, ap, sym, ◌∙◌}
use Rattle.cf_script.specs.Arguments.{over}
use Rattle.cf_script.proofs.OverFacts.{variable-pushed, on-ok}
use Rattle.cf_script.proofs.arguments.Over.push.Goals as goal

pub returns-in-Var : goal.returns-in-Var
returns-in-Var c =
    on-ok c.push-in-Var.result _ _ c.push-in-Var.ensures.ok
    (λ is. variable-pushed c.args.self.now _ c.in-Var.var refl is ∙ ap (λ a. over c.args.self.now ++ a ∷ []) (sym c.in-Var.is))
