use Rattle.std.proofs.Common.{arith}
use Rattle.cf_script.proofs.NumberFacts.{few-digits}
use Rattle.cf_script.proofs.numbers.short_natural.Goals as goal

pub overflow_mul-value : goal.overflow_mul-value
overflow_mul-value c =
    let below = few-digits c.args.word.now c.loop-digit.digit-index (omega (arith, c.requires, c.loop-digit-test.true)) c.loop-digit.invariant.digits in
    omega (arith, below, c.loop-digit.invariant.value)

pub overflow_add-value : goal.overflow_add-value
overflow_add-value c =
    let below = few-digits c.args.word.now c.loop-digit.digit-index (omega (arith, c.requires, c.loop-digit-test.true)) c.loop-digit.invariant.digits in
    omega (arith, below, c.loop-digit.invariant.value, c.from.ensures)
