use Rattle.std.proofs.Common.{◌≡◌, ◌++◌, map, take}
use Rattle.cf_flat.proofs.copies.add_covers.Given as goal

abbrev pub invariant-loop-gate : goal.invariant-loop-gate
invariant-loop-gate l = l.covers ≡ l.initial.covers ++ map (λ g. g.cover) (take l.gate-index l.gates)
