use Rattle.std.proofs.Common.{◌≡◌, ◌++◌, map}
use Rattle.std.specs.List.{range_with_len}
use Rattle.cf_pair.specs.Products.{met, returned2}
use Rattle.cf_pair.proofs.pairing.push_met.Given as goal

abbrev pub invariant-loop-exit : goal.invariant-loop-exit
invariant-loop-exit l = l.rows ≡ record { rows = l.fn.rows.rows; begun = l.fn.rows.begun ++ map (returned2 l.left l.right) (map (met l.plain.meeting) (range_with_len 0 l.exit)) }
