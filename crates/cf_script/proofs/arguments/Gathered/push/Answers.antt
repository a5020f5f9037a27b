use Rattle.std.proofs.Common.{◌∷◌, ◌++◌, [], ap, ◌∙◌}
use Rattle.cf_script.specs.Arguments.{gathered}
use Rattle.cf_script.specs.declared.arguments.Gathered.{Gathered}
use Rattle.cf_script.proofs.arguments.Gathered.push.Goals as goal

pub returns : goal.returns
returns c =
    ap gathered c.replace-2.ensures.after ∙ c.followed_by-longer.ensures
    ∙ ap (λ (g : Gathered). gathered g ++ c.args.argument ∷ []) c.replace.ensures.value
