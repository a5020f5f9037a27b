use Rattle.std.proofs.Common.{cond, Some, None}
use Rattle.cf_circuits.specs.Links.{is_formal}
use Rattle.cf_links.specs.Directories.{model_at}
use Rattle.cf_links.proofs.CallsSearch.{Sought}
use Rattle.cf_links.proofs.calls.formal_missing_in.Given as goal

abbrev pub invariant-loop-pin : goal.invariant-loop-pin
invariant-loop-pin l = Sought (λ p. cond (is_formal (model_at l.directory l.callee) p.formal) None (Some p.formal)) l.pin-items l.pin-index
