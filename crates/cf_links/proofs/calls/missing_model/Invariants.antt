use Rattle.cf_circuits.specs.Links.{missing_model}
use Rattle.cf_links.proofs.CallsSearch.{Sought}
use Rattle.cf_links.proofs.calls.missing_model.Given as goal

abbrev pub invariant-loop-call : goal.invariant-loop-call
invariant-loop-call l = Sought (missing_model l.directory) l.call-items l.call-index
