use Rattle.std.proofs.Common.{take}
use Rattle.cf_model.specs.Renumbering.{AllDiffer}
use Rattle.cf_build.proofs.label.are_few_and_differ.Given as goal

abbrev pub invariant-loop-i : goal.invariant-loop-i
invariant-loop-i g l = AllDiffer (take l.i l.labels)
