use Rattle.std.proofs.Common.{◌≡◌, map, take}
use Rattle.cf_witness.specs.Nexts.{is_marked}
use Rattle.cf_witness.proofs.next.marks_of.Given as goal

abbrev pub invariant-loop-exit : goal.invariant-loop-exit
invariant-loop-exit l = l.inner.items ≡ map (is_marked l.marks) (take l.exit-index l.exits)
