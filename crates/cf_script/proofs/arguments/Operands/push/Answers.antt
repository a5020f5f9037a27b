use Rattle.std.proofs.Common.{◌∷◌, ◌++◌, [], ap, ◌∙◌}
use Rattle.cf_script.specs.Arguments.{operands_of}
use Rattle.cf_script.specs.declared.arguments.Argument.TheVariants as argument
use Rattle.cf_script.specs.declared.arguments.Operands.{Operands}
use Rattle.cf_script.proofs.arguments.Operands.push.Goals as goal

pub returns : goal.returns
returns c =
    ap operands_of c.replace-2.ensures.after ∙ c.followed_by-longer.ensures
    ∙ ap (λ (o : Operands). operands_of o ++ argument.Expr c.args.e ∷ []) c.replace.ensures.value
