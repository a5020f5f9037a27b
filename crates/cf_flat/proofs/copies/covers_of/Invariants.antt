use Rattle.std.proofs.Common.{◌≡◌, ◌++◌, drop}
use Rattle.cf_blocks.specs.Numbering.{covers_of}
use Rattle.cf_flat.proofs.copies.covers_of.Given as goal

abbrev pub invariant-loop-model : goal.invariant-loop-model
invariant-loop-model l = l.covers ++ covers_of (drop l.model-index l.models) ≡ covers_of l.models
