use Rattle.std.proofs.Common.{◌≤◌, ◌+◌, length}
use Rattle.cf_reference.specs.LineRefusals.{IsDeep}
use Rattle.cf_script.proofs.DepthFacts.{IsDeepBehind}
use Rattle.cf_script.proofs.statements.stays_shallow.Given as goal

abbrev pub invariant-loop-rest : goal.invariant-loop-rest
invariant-loop-rest l = record {
  deep : IsDeep l.text → IsDeepBehind l.opened l.closed l.rest;
  shallow : l.opened ≤ 64 + l.closed;
  bound : (l.opened + length l.rest ≤ length l.text) × (l.closed + length l.rest ≤ length l.text);
}

abbrev pub decreases-loop-rest : goal.decreases-loop-rest
decreases-loop-rest l = length l.rest
