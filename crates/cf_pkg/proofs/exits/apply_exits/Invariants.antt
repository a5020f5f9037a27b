use Rattle.std.proofs.Common.{◌≡◌, map, take, Some}
use Rattle.cf_pkg.specs.Exits.{apply_each}
use Rattle.cf_pkg.proofs.exits.apply_exits.Given as goal

abbrev pub invariant-loop-i : goal.invariant-loop-i
invariant-loop-i g l = map Some l.worked.items ≡ apply_each l.op.tree l.left l.right (take l.i l.pairs)
