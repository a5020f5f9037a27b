use Rattle.cf_circuit.proofs.BuildLaws.{Shown}
use Rattle.cf_circuit.proofs.outputs.build.Given as goal

abbrev pub invariant-loop-out : goal.invariant-loop-out
invariant-loop-out l = Shown l.fn.pkg l.pkg l.level l.flat l.positions l.needed.items l.truths.items l.functions.items l.out-index
