use Rattle.cf_circuits.proofs.FirstLaws.{faults-first, faultless-texts}
use Rattle.cf_circuits.proofs.laws.faults_are_first.Goals as goal

pub returns-clause-first : goal.returns-clause-first
returns-clause-first c = faults-first

pub returns-clause-none : goal.returns-clause-none
returns-clause-none c = faultless-texts
