use Rattle.std.proofs.Common.{◌≡◌, map}
use Rattle.std.specs.List.{range_with_len}
use Rattle.cf_pair.specs.Products.{met}
use Rattle.cf_pair.proofs.plain.Plain.pairs.Given as goal

abbrev pub invariant-loop-exit : goal.invariant-loop-exit
invariant-loop-exit l = l.pairs.items ≡ map (met l.self.meeting) (range_with_len 0 l.exit)
