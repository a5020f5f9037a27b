use Rattle.std.proofs.Common.{take}
use Rattle.std.specs.Prelude.{All}
use Rattle.cf_table.specs.Goodness.{IsGoodOver}
use Rattle.cf_table.proofs.goodness.are_good_connections.Given as goal

abbrev pub invariant-loop-b : goal.invariant-loop-b
invariant-loop-b l = All (IsGoodOver l.table l.fn.level) (take l.b-index l.bs)
