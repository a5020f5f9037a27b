use Rattle.cf_links.specs.Kinds.{of_kind}
use Rattle.cf_links.proofs.CallsSearch.{Sought}
use Rattle.cf_links.proofs.kinds.in_models.Given as goal

abbrev pub invariant-loop-model : goal.invariant-loop-model
invariant-loop-model l = Sought (of_kind l.kind l.directory) l.model-items l.model-index
