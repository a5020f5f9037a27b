use Rattle.std.proofs.Common.{ap, Err}
use Rattle.cf_model.specs.Assignments.{bits}
use Rattle.cf_circuit.proofs.TruthLaws.{choice_has}
use Rattle.cf_circuit.proofs.words.chosen_uncounted.Goals as goal

pub returns-in-Ok-clause-values : goal.returns-in-Ok-clause-values
returns-in-Ok-clause-values g c = c.in-Ok.ensures.outcome.answer.values

pub unreachable-requires : goal.unreachable-requires
unreachable-requires g c =
    let at = c.in-Err-Overflow.field-0-0 in
    choice_has c.args.pkg.now c.args.f c.args.g c.args.h c.args.f.head.level (bits at)
    (c.in-Err-Overflow.ensures.outcome.overflow at (ap Err c.in-Err-Overflow.field-0-is))
