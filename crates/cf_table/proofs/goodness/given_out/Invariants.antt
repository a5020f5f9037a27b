use Rattle.std.proofs.Common.{◌≡◌, take}
use Rattle.cf_model.specs.Renumbering.{width}
use Rattle.cf_table.proofs.goodness.given_out.Given as goal

abbrev pub invariant-loop-exit : goal.invariant-loop-exit
invariant-loop-exit l = l.next ≡ width l.fn.before (take l.exit-index l.list)
