use Rattle.std.proofs.Common.{ap, sym, ◌∙◌, refl}
use Rattle.cf_reference.specs.declared.grammar.Head.TheVariants as head
use Rattle.cf_reference.specs.Trees.{Call}
use Rattle.cf_script.specs.Views.{tree_of, listed}
use Rattle.cf_script.proofs.Rows.{fold_listed}
use Rattle.cf_session.specs.Arguments.{arguments_of}
use Rattle.cf_session.proofs.arguments.form_of.Goals as goal

pub returns-in-Fold : goal.returns-in-Fold
returns-in-Fold c =
    let is = ap tree_of c.in-Fold.is ∙ fold_listed c.in-Fold.word c.in-Fold.es in
    let given = ap arguments_of is ∙ ap listed (sym c.items.ensures) in
    (is ∙ ap (Call (head.Fold c.in-Fold.word)) (sym (ap arguments_of is)), given, refl)
