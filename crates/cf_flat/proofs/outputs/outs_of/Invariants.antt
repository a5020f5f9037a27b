use Rattle.std.proofs.Common.{◌≡◌, map, take}
use Rattle.cf_flat.specs.Flattening.{out_at}
use Rattle.cf_flat.proofs.outputs.outs_of.Given as goal

abbrev pub invariant-loop-n : goal.invariant-loop-n
invariant-loop-n l = l.outs ≡ map (out_at l.signals l.wires) (take l.n l.names)
