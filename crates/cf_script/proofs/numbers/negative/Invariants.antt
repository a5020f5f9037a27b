use Rattle.std.proofs.Common.{◌≡◌, pos, neg_ℤ, take}
use Rattle.cf_reference.specs.Words.{decimal_value}
use Rattle.cf_script.proofs.numbers.negative.Given as goal

abbrev pub invariant-loop-digit : goal.invariant-loop-digit
invariant-loop-digit l = l.value ≡ neg_ℤ (pos (decimal_value (take l.digit-index l.digits)))
