use Rattle.std.proofs.Common.{◌≡◌, take}
use Rattle.cf_circuits.specs.LinkFaults.{weights_of}
use Rattle.cf_blocks.proofs.weights_of.Given as goal

abbrev pub invariant-loop-model : goal.invariant-loop-model
invariant-loop-model l = l.all.items ≡ weights_of (take l.model-index l.models)
