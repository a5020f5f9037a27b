use Rattle.cf_circuits.specs.Links.{missing_pin}
use Rattle.cf_links.proofs.CallsSearch.{Sought}
use Rattle.cf_links.proofs.calls.missing_pin.Given as goal

abbrev pub invariant-loop-call : goal.invariant-loop-call
invariant-loop-call l = Sought (missing_pin l.directory) l.call-items l.call-index
