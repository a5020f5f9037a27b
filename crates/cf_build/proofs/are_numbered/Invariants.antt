use Rattle.std.proofs.Common.{◌≡◌, ◌≤◌, take}
use Rattle.cf_model.specs.Renumbering.{width, Grows}
use Rattle.cf_build.proofs.are_numbered.Given as goal

abbrev pub invariant-loop-i : goal.invariant-loop-i
invariant-loop-i l = Grows 0 (take l.i l.classes) × (width 0 (take l.i l.classes) ≡ l.next) × (l.next ≤ l.i)
