use Rattle.std.proofs.Common.{arith}
use Rattle.cf_model.specs.Assignments.{bits}
use Rattle.cf_bits.proofs.Digits.{digits_more, rest_more}
use Rattle.cf_bits.proofs.Bits.text.Goals as goal

pub loop-i-preserved : goal.loop-i-preserved
loop-i-preserved c = record {
  digits = digits_more c.loop-i.out (bits c.args.self) c.loop-i.i c.from.result c.digit.result c.get.result c.from.ensures c.digit.ensures (omega arith) c.get.ensures c.loop-i.invariant.digits;
  rest = rest_more c.loop-i.out c.args.out.now c.loop-i.i c.from.result c.digit.result c.from.ensures c.loop-i.invariant.rest;
}
