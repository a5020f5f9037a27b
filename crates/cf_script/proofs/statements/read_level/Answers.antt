use Rattle.cf_script.proofs.StatementFacts.{level-wide}
use Rattle.cf_reference.specs.Words.{words}
use Rattle.cf_script.proofs.statements.read_level.Goals as goal

pub returns-in-Some-None : goal.returns-in-Some-None
returns-in-Some-None c =
    level-wide c.args.text.now c.in-Some.word.now (words c.args.text.now) c.in-Some-None.field-0 c.in-Some.ensures.found c.in-Some-None.field-0-is c.in-Some-None.ensures
