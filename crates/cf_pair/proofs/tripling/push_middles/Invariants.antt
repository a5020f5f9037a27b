use Rattle.std.proofs.Common.{◌≡◌, ◌++◌, take, map}
use Rattle.cf_pair.specs.Products.{returned3}
use Rattle.cf_pair.specs.Triples.{triples_at}
use Rattle.cf_pair.proofs.tripling.push_middles.Given as goal

abbrev pub invariant-loop-i : goal.invariant-loop-i
invariant-loop-i l = l.rows ≡ record { rows = l.fn.rows.rows; begun = l.fn.rows.begun ++ map (returned3 l.left l.middle l.right) (take l.i (triples_at l.table l.middles)) }
