use Rattle.std.proofs.Common.{◌≡◌, ◌≤◌, ◌==◌, take}
use Rattle.std.specs.List.{count_by}
use Rattle.cf_script.proofs.statements.count.Given as goal

abbrev pub invariant-loop-b : goal.invariant-loop-b
invariant-loop-b l = record {
  found : l.found ≡ count_by (λ b. b == l.sign) (take l.b-index l.block);
  bound : l.found ≤ l.b-index;
}
