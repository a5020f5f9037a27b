use Rattle.std.proofs.Common.{[], ◌∷◌, Some}
use Rattle.cf_reference.specs.declared.grammar.Kind.TheVariants.{Expression as AnExpression, Variable as AVariable}
use Rattle.cf_script.proofs.OverFacts.{no-operands, one-operand}
use Rattle.cf_script.proofs.arguments.Over.two_exprs_vars.Goals as goal

pub unreachable-requires : goal.unreachable-requires
unreachable-requires c =
    no-operands (AnExpression ∷ AVariable ∷ []) (Some AVariable) c.args.self.operands c.args.self.vars c.in-Empty.is c.requires

pub unreachable-requires-in-One : goal.unreachable-requires-in-One
unreachable-requires-in-One c = one-operand (AVariable ∷ []) (Some AVariable) c.args.self.operands c.args.self.vars _ c.in-One.is c.requires
