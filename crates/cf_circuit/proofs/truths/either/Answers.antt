use Rattle.cf_circuit.proofs.TruthCases.{either_where}
use Rattle.cf_circuit.proofs.truths.either.Goals as goal

pub returns-in_ok-joined-in-Where-Where-clause-told : goal.returns-in_ok-joined-in-Where-Where-clause-told
returns-in_ok-joined-in-Where-Where-clause-told c =
    either_where c.args.pkg.now c.joined.new.pkg c.args.a c.args.b c.in-Where-Where.f c.in-Where-Where.g c.in_ok-joined-in-Where-Where.field-0 c.in-Where-Where.is-0 c.in-Where-Where.is-1 c.in_ok-joined-in-Where-Where.ensures.values
