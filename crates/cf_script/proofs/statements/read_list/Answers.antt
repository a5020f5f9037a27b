use Rattle.std.proofs.Common.{sym, ◌∙◌}
use Rattle.cf_reference.specs.Words.{words}
use Rattle.cf_script.proofs.StatementFacts.{list-wide}
use Rattle.cf_script.proofs.statements.read_list.Goals as goal

pub returns-in-None : goal.returns-in-None
returns-in-None c =
    list-wide c.args.text.now c.in-Some.name.now c.in-Some.value.now c.in-Some.most.now (words c.args.text.now) c.in-Some-number.value c.in-Some-natural.most c.in-Some.ensures.found
    (sym c.is_name.ensures ∙ c.if-not-is_name.false) c.in-None.ensures c.in-Some-number.ensures c.in-Some-natural.ensures
