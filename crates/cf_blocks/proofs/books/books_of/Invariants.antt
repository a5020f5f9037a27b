use Rattle.std.proofs.Common.{◌≡◌, map, take}
use Rattle.cf_circuits.specs.Expansions.{signals}
use Rattle.cf_blocks.proofs.books.books_of.Given as goal

abbrev pub invariant-loop-model : goal.invariant-loop-model
invariant-loop-model l = l.books.items ≡ map (signals l.directory) (take l.model-index l.models)
