use Rattle.std.proofs.Common.{take}
use Rattle.cf_model.specs.Renumbering.{AllDiffer}
use Rattle.cf_table.proofs.goodness.entries_differ.Given as goal

abbrev pub invariant-loop-i : goal.invariant-loop-i
invariant-loop-i l = AllDiffer (take l.i l.list)
