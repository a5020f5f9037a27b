use Rattle.std.proofs.Common.{take}
use Rattle.cf_table.specs.Goodness.{IsNumberedOn}
use Rattle.cf_table.proofs.goodness.numbered_on.Given as goal

abbrev pub invariant-loop-exit : goal.invariant-loop-exit
invariant-loop-exit l = IsNumberedOn l.fn.before (take l.exit-index l.list) l.next
