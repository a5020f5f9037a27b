use Rattle.std.proofs.Common.{◌≡◌, ◌++◌, take, map}
use Rattle.cf_pair.specs.Products.{returned2}
use Rattle.cf_pair.proofs.pairing.push_pairs.Given as goal

abbrev pub invariant-loop-i : goal.invariant-loop-i
invariant-loop-i l = l.rows ≡ record { rows = l.fn.rows.rows; begun = l.fn.rows.begun ++ map (returned2 l.left l.right) (take l.i l.pairs) }
