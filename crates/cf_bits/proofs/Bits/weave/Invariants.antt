use Rattle.std.proofs.Common.{◌≡◌, take}
use Rattle.cf_model.specs.Assignments.{bits, number_of, weave}
use Rattle.cf_bits.proofs.Bits.weave.Given as goal

abbrev pub invariant-loop-i : goal.invariant-loop-i
invariant-loop-i l = l.number ≡ number_of (weave (take l.i (bits l.row)) (take l.i (bits l.col)))
