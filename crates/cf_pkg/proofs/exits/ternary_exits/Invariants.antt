use Rattle.std.proofs.Common.{◌≡◌, map, take, Some}
use Rattle.cf_pkg.specs.Exits.{ternary_each}
use Rattle.cf_pkg.proofs.exits.ternary_exits.Given as goal

abbrev pub invariant-loop-i : goal.invariant-loop-i
invariant-loop-i g l = map Some l.worked.items ≡ ternary_each l.op.tree l.first l.second l.third (take l.i l.triples)
