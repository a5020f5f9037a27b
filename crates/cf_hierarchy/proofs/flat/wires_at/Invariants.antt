use Rattle.std.proofs.Common.{◌≡◌, map, take}
use Rattle.std.specs.Prelude.{slice_index}
use Rattle.cf_hierarchy.proofs.flat.wires_at.Given as goal

abbrev pub invariant-loop-signal : goal.invariant-loop-signal
invariant-loop-signal l = l.all ≡ map (slice_index l.wires) (take l.signal-index l.signals)
