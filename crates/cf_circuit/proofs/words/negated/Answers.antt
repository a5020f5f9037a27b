use Rattle.std.proofs.Common.{ap, Err}
use Rattle.cf_model.specs.Assignments.{bits}
use Rattle.cf_circuit.proofs.TruthLaws.{map_has}
use Rattle.cf_circuit.proofs.words.negated.Goals as goal

pub returns-in-Ok-clause-values : goal.returns-in-Ok-clause-values
returns-in-Ok-clause-values c = c.in-Ok.ensures.outcome.answer.values

pub unreachable-requires : goal.unreachable-requires
unreachable-requires c =
    let at = c.in-Err-Overflow.field-0-0 in
    map_has c.args.pkg.now c.args.f c.args.f.head.level (bits at)
    (c.in-Err-Overflow.ensures.outcome.overflow at (ap Err c.in-Err-Overflow.field-0-is))
