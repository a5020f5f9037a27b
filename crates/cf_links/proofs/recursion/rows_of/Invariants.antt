use Rattle.std.proofs.Common.{◌≡◌, take, map}
use Rattle.cf_links.specs.Directories.{places_of}
use Rattle.cf_links.proofs.recursion.rows_of.Given as goal

abbrev pub invariant-loop-model : goal.invariant-loop-model
invariant-loop-model l = l.rows.items ≡ map (places_of l.directory) (take l.model-index l.model-items)
