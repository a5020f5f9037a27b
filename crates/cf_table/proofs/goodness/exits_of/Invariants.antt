use Rattle.std.proofs.Common.{◌≡◌, take}
use Rattle.cf_model.specs.Renumbering.{width}
use Rattle.cf_table.specs.Goodness.{returns_of}
use Rattle.cf_table.proofs.goodness.exits_of.Given as goal

abbrev pub invariant-loop-b : goal.invariant-loop-b
invariant-loop-b l = l.next ≡ width 0 (returns_of l.book (take l.b-index l.bs))
