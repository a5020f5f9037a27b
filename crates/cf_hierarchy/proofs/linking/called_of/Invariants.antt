use Rattle.std.proofs.Common.{◌≡◌, take}
use Rattle.cf_hierarchy.specs.Links.{called}
use Rattle.cf_hierarchy.proofs.linking.called_of.Given as goal

abbrev pub invariant-loop-call : goal.invariant-loop-call
invariant-loop-call l = l.row ≡ called (take l.call-index l.all)
