use Rattle.std.proofs.Common.{◌≡◌, ◌++◌, take}
use Rattle.cf_build.specs.Assembling.{classed}
use Rattle.cf_build.proofs.merge.append_classes.Given as goal

abbrev pub invariant-loop-i : goal.invariant-loop-i
invariant-loop-i l = l.labels.items ≡ l.fn.labels.items ++ classed l.classes (take l.i l.returns)
