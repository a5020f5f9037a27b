use Rattle.cf_circuit.proofs.TruthCases.{not_where}
use Rattle.cf_circuit.proofs.truths.not.Goals as goal

pub returns-in_ok-negated-in-Where-clause-told : goal.returns-in_ok-negated-in-Where-clause-told
returns-in_ok-negated-in-Where-clause-told c =
    not_where c.args.pkg.now c.negated.new.pkg c.args.a c.in-Where.f c.in_ok-negated-in-Where.field-0 c.in-Where.is c.in_ok-negated-in-Where.ensures.values
