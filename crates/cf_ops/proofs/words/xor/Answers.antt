use Rattle.std.proofs.Common.{◌≡◌, ◌∙◌, sym, pos, Some, rules}
use mir.Syntax.{w128}
use mir.Val.{to_z, of_z}
use Rattle.cf_model.specs.Terms.{value2}
use Rattle.cf_model.specs.declared.terms.Word2.TheVariants.{Xor}
use Rattle.cf_ops.proofs.TermFacts.{term-of_two}
use Rattle.cf_ops.proofs.words.xor.Goals as goal

pub returns-clause-tree : goal.returns-clause-tree
returns-clause-tree c =
    let value : Some (to_z w128 (of_z w128 c.from.result)) ≡ value2 Xor c.args.x c.args.y = search rules in
    value ∙ sym (term-of_two Xor c.args.x c.args.y (pos 0))
