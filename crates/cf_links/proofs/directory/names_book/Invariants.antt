use Rattle.std.proofs.Common.{◌≡◌, take}
use Rattle.cf_circuits.specs.Links.{names_of}
use Rattle.cf_links.proofs.directory.names_book.Given as goal

abbrev pub invariant-loop-model : goal.invariant-loop-model
invariant-loop-model l = l.book ≡ take l.model-index (names_of l.models)
