use Rattle.std.proofs.Common.{◌≡◌, map, take}
use Rattle.cf_table.specs.Kept.{packed}
use Rattle.cf_table.proofs.level.Level.pack.Given as goal

abbrev pub invariant-loop-b : goal.invariant-loop-b
invariant-loop-b l = l.connections.items ≡ map packed (take l.b-index l.bs)
