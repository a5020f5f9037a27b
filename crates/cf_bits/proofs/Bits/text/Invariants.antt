use Rattle.std.proofs.Common.{◌≡◌, take, drop}
use Rattle.cf_model.specs.Assignments.{bits, digits_of}
use Rattle.cf_bits.proofs.Bits.text.Given as goal

abbrev pub invariant-loop-i : goal.invariant-loop-i
invariant-loop-i l = record {
  digits : take l.i l.out ≡ digits_of (take l.i (bits l.self));
  rest : drop l.i l.out ≡ drop l.i l.fn.out;
}
