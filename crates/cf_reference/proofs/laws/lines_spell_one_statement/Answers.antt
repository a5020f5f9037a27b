use Rattle.cf_reference.proofs.GrammarLaws.{one_statement}
use Rattle.cf_reference.proofs.laws.lines_spell_one_statement.Goals as goal

pub returns : goal.returns
returns c = one_statement
