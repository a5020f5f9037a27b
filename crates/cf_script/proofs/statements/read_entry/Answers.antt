use Rattle.std.proofs.Common.{sym, ◌∙◌}
use Rattle.cf_reference.specs.Words.{words}
use Rattle.cf_script.proofs.StatementFacts.{entry-wide}
use Rattle.cf_script.proofs.statements.read_entry.Goals as goal

pub returns-in-None : goal.returns-in-None
returns-in-None c =
    entry-wide c.args.text.now c.in-Some.name.now c.in-Some.row.now c.in-Some.column.now (words c.args.text.now) c.in-Some-natural.row c.in-Some-natural-2.column c.in-Some.ensures.found
    (sym c.is_name.ensures ∙ c.if-not-is_name.false) c.in-None.ensures c.in-Some-natural.ensures c.in-Some-natural-2.ensures
