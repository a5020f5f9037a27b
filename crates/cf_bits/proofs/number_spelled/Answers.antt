use Rattle.std.proofs.Common.{arith, ◌≤◌, ◌^◌}
use Rattle.std.proofs.Math.Pow.{pow_mono}
use Rattle.cf_bits.proofs.number_spelled.Goals as goal

pub overflow_mul-number : goal.overflow_mul-number
overflow_mul-number c =
    let most : 2 ^ c.loop-digit.digit-index ≤ 2 ^ 127 = pow_mono {i = c.loop-digit.digit-index} {j = 127} (omega arith) in
    omega (arith, c.loop-digit.invariant.below)

pub overflow_add-number : goal.overflow_add-number
overflow_add-number c =
    let most : 2 ^ c.loop-digit.digit-index ≤ 2 ^ 127 = pow_mono {i = c.loop-digit.digit-index} {j = 127} (omega arith) in
    omega (arith, c.loop-digit.invariant.below)
