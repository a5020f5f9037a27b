use Rattle.cf_flat.proofs.KindLaws.{names-first, blocks-first, faultless}
use Rattle.cf_flat.proofs.laws.faults_agree.Goals as goal

pub returns-clause-names : goal.returns-clause-names
returns-clause-names c = names-first

pub returns-clause-blocks : goal.returns-clause-blocks
returns-clause-blocks c = blocks-first

pub returns-clause-none : goal.returns-clause-none
returns-clause-none c = faultless
