use Rattle.std.proofs.Common.{cond, Some, None}
use Rattle.cf_circuits.specs.Links.{is_among}
use Rattle.cf_links.proofs.CallsSearch.{Sought}
use Rattle.cf_links.proofs.calls.first_lacking.Given as goal

abbrev pub invariant-loop-name : goal.invariant-loop-name
invariant-loop-name l = Sought (λ name. cond (is_among l.book name) None (Some name)) l.names l.name-index
