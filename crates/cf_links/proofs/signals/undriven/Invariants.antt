use Rattle.std.proofs.Common.{◌≡◌, ◌++◌, length}
use Rattle.cf_circuits.specs.Links.{uses, undriven, gathered}
use Rattle.cf_links.specs.Directories.{first_lacking}
use Rattle.cf_links.proofs.signals.undriven.Given as goal

abbrev pub invariant-loop-part : goal.invariant-loop-part
invariant-loop-part l =
    first_lacking l.driven.names (gathered (uses l.directory) l.parts ++ l.model.outputs) ≡ undriven l.directory l.model

abbrev pub decreases-loop-part : goal.decreases-loop-part
decreases-loop-part l = length l.parts
