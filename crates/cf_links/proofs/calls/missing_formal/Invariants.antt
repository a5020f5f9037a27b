use Rattle.cf_circuits.specs.Links.{missing_formal}
use Rattle.cf_links.proofs.CallsSearch.{Sought}
use Rattle.cf_links.proofs.calls.missing_formal.Given as goal

abbrev pub invariant-loop-call : goal.invariant-loop-call
invariant-loop-call l = Sought (missing_formal l.directory) l.call-items l.call-index
