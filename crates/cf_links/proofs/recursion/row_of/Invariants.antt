use Rattle.std.proofs.Common.{◌≡◌, take, map}
use Rattle.std.specs.Str.{bytes_eq}
use Rattle.cf_model.specs.Renumbering.{place}
use Rattle.cf_circuits.specs.Links.{names_of}
use Rattle.cf_links.proofs.recursion.row_of.Given as goal

abbrev pub invariant-loop-call : goal.invariant-loop-call
invariant-loop-call l = l.row ≡ map (λ c. place bytes_eq (names_of l.directory) c.model) (take l.call-index l.call-items)
