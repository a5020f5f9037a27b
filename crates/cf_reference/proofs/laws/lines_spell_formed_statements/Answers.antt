use Rattle.cf_reference.proofs.DepthLaws.{formed_statements}
use Rattle.cf_reference.proofs.laws.lines_spell_formed_statements.Goals as goal

pub returns : goal.returns
returns c = formed_statements
