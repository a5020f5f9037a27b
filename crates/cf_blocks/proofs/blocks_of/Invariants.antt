use Rattle.std.proofs.Common.{◌≡◌, ◌++◌, drop}
use Rattle.cf_blocks.specs.Numbering.{blocks_from}
use Rattle.cf_blocks.proofs.blocks_of.Given as goal

abbrev pub invariant-loop-at : goal.invariant-loop-at
invariant-loop-at l = l.blocks.items ++ blocks_from l.models l.cover (drop l.at l.models) ≡ blocks_from l.models 0 l.models
