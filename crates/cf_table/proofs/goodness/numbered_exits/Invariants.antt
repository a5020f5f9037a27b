use Rattle.std.proofs.Common.{take}
use Rattle.cf_table.specs.Goodness.{returns_of, IsNumberedOn}
use Rattle.cf_table.proofs.goodness.numbered_exits.Given as goal

abbrev pub invariant-loop-b : goal.invariant-loop-b
invariant-loop-b l = IsNumberedOn 0 (returns_of l.table.tuples (take l.b-index l.bs)) l.next
