use Rattle.std.proofs.Common.{sym, ◌∙◌}
use Rattle.cf_script.proofs.StatementFacts.{first-wide}
use Rattle.cf_reference.specs.Words.{words}
use Rattle.cf_script.proofs.statements.read_first.Goals as goal

pub returns-in-Some-None : goal.returns-in-Some-None
returns-in-Some-None c =
    first-wide c.args.text.now c.in-Some.name.now c.in-Some.value.now (words c.args.text.now) c.in-Some-None.field-0 c.in-Some.ensures.found (sym c.is_name.ensures ∙ c.if-not-is_name.false)
    c.in-Some-None.field-0-is c.in-Some-None.ensures
