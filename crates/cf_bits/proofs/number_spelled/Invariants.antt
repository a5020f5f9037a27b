use Rattle.std.proofs.Common.{◌≡◌, ◌<◌, ◌^◌, ◌==◌, take, map}
use Rattle.cf_model.specs.Assignments.{number_of}
use Rattle.cf_bits.proofs.number_spelled.Given as goal

abbrev pub invariant-loop-digit : goal.invariant-loop-digit
invariant-loop-digit l = record {
  number : l.number ≡ number_of (map (λ b. b == 49) (take l.digit-index l.digits));
  below : l.number < 2 ^ l.digit-index;
}
