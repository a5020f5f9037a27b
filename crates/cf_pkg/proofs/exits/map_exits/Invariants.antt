use Rattle.std.proofs.Common.{◌≡◌, map, take, Some}
use Rattle.cf_pkg.specs.Exits.{map_each}
use Rattle.cf_pkg.proofs.exits.map_exits.Given as goal

abbrev pub invariant-loop-i : goal.invariant-loop-i
invariant-loop-i g l = map Some l.worked.items ≡ map_each l.op.tree (take l.i l.values)
