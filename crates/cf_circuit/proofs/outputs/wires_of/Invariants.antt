use Rattle.std.proofs.Common.{◌+◌, length}
use Rattle.cf_circuit.specs.Functions.{wire_test}
use Rattle.cf_circuit.proofs.BuildLaws.{Wired}
use Rattle.cf_circuit.proofs.outputs.wires_of.Given as goal

abbrev pub invariant-loop-position : goal.invariant-loop-position
invariant-loop-position l =
    Wired l.fn.pkg l.pkg l.level (wire_test l.flat l.positions) l.needed l.truths.items l.position-index

abbrev pub invariant-loop-gate : goal.invariant-loop-gate
invariant-loop-gate l =
    Wired l.fn.pkg l.pkg l.level (wire_test l.flat l.positions) l.needed l.truths.items (length l.flat.inputs + l.gate-index)
