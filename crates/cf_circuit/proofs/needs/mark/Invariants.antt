use Rattle.std.proofs.Common.{◌≡◌, drop, length}
use Rattle.cf_circuit.specs.Needs.{marked}
use Rattle.cf_circuit.proofs.needs.mark.Given as goal

abbrev pub invariant-loop-wire : goal.invariant-loop-wire
invariant-loop-wire l = record {
  same : length l.needed ≡ length l.fn.needed;
  marks : marked l.needed (drop l.wire-index l.wires) ≡ marked l.fn.needed l.wires;
}
