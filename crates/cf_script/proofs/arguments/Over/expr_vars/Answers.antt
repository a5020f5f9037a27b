use Rattle.std.proofs.Common.{[], ◌∷◌, Some}
use Rattle.cf_reference.specs.declared.grammar.Kind.TheVariants.{Variable as AVariable}
use Rattle.cf_script.proofs.OverFacts.{no-operands}
use Rattle.cf_script.proofs.arguments.Over.expr_vars.Goals as goal

pub unreachable-requires : goal.unreachable-requires
unreachable-requires c = no-operands (AVariable ∷ []) (Some AVariable) c.args.self.operands c.args.self.vars c.in-Empty.is c.requires
