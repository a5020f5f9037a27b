use Rattle.std.proofs.Common.{ℕ, ◌≡◌, ◌+◌, ◌≤◌, ◌==◌, take}
use Rattle.std.specs.List.{count_by}
use Rattle.cf_script.proofs.statements.has_deep_front.Given as goal

abbrev pub invariant-loop-b : goal.invariant-loop-b
invariant-loop-b l = record {
  opened : l.opened ≡ count_by (λ b. b == 40) (take l.b-index l.text);
  closed : l.closed ≡ count_by (λ b. b == 41) (take l.b-index l.text);
  bound : (l.opened ≤ l.b-index) × (l.closed ≤ l.b-index);
  shallow : (k : ℕ) → k ≤ l.b-index → count_by (λ b. b == 41) (take k l.text) + 65 ≤ count_by (λ b. b == 40) (take k l.text) → ⊥;
}
