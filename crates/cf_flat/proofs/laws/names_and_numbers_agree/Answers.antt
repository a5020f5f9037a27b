use Rattle.cf_flat.proofs.NamedLaws.{blocks-linked, blocks-values, wires-values}
use Rattle.cf_flat.proofs.laws.names_and_numbers_agree.Goals as goal

pub returns-clause-linked : goal.returns-clause-linked
returns-clause-linked c = blocks-linked

pub returns-clause-values : goal.returns-clause-values
returns-clause-values c = blocks-values

pub returns-clause-wires : goal.returns-clause-wires
returns-clause-wires c = wires-values
