use Rattle.std.proofs.Common.{◌≡◌, ◌+◌, map, take}
use Rattle.cf_hierarchy.proofs.nodes.gate_at.Given as goal

abbrev pub invariant-loop-signal : goal.invariant-loop-signal
invariant-loop-signal l = l.ins ≡ map (λ t. l.base + t) (take l.signal-index l.signal-items)
