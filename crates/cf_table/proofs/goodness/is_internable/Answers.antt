use Rattle.std.proofs.Common.{◌≡◌, ℕ, Bool, IsTrue, sym, ◌∙◌, arith}
use Rattle.std.specs.Prelude.{Option, Some, None, is_some, MatchOption}
use Rattle.std.proofs.lemmas.Bool.{false≢true}
use Rattle.cf_model.specs.Renumbering.{Grows}
use Rattle.cf_table.specs.Groupings.{IsInternable}
use Rattle.cf_table.specs.Goodness.{returns_of, IsNumberedOn}
use Rattle.cf_table.proofs.Internable.{internable, tested}
use Rattle.cf_table.proofs.goodness.is_internable.Goals as goal

pub returns-then-not-are_good_connections : goal.returns-then-not-are_good_connections
returns-then-not-are_good_connections c = (
  λ h. absurd (false≢true h),
  λ r. absurd (false≢true (sym c.if-not-are_good_connections.true ∙ c.are_good_connections.ensures.1 (tested c.args.table.now c.args.a c.args.bs.now r).connections)),
)

-- what the numbering answers settles the test
settled : (o : Option ℕ) (b : Bool) (P Q : Type 0) (R : ℕ → Type 0) → b ≡ is_some o → MatchOption o (P → ⊥) R → ((n : ℕ) → R n → P) → (P → Q) → (Q → P) → (IsTrue b → Q) × (Q → IsTrue b)
settled None b P Q R e m some there back = (λ h. absurd (false≢true (sym e ∙ h)), λ q. absurd (m (back q)))
settled (Some n) b P Q R e m some there back = (λ h. there (some n m), λ q. e)

pub returns-then-connections_differ : goal.returns-then-connections_differ
returns-then-connections_differ c =
    let t = c.args.table.now in
    let a = c.args.a in
    let bs = c.args.bs.now in
    settled c.numbered_exits.result c.is_some.result (Grows 0 (returns_of t.tuples bs)) (IsInternable t a bs) (IsNumberedOn 0 (returns_of t.tuples bs)) c.is_some.ensures c.numbered_exits.ensures (λ n r. r.grows)
    (λ grows. internable t a bs c.law.ensures.differ (record {
      level = omega (arith, c.if-a-gt6.false);
      owned = c.owns.ensures.0 c.if-not-owns.false;
      middles = c.if-bs-exits.false ∙ c.exits.ensures;
      connections = c.are_good_connections.ensures.0 c.if-not-are_good_connections.false;
      differ = c.connections_differ.ensures.0 c.if-connections_differ.true;
      first_reach = grows;
    }))
    (λ r. (tested t a bs r).first_reach)

pub returns-else-connections_differ : goal.returns-else-connections_differ
returns-else-connections_differ c = (
  λ h. absurd (false≢true (sym c.if-connections_differ.false ∙ h)),
  λ r. c.connections_differ.ensures.1 (tested c.args.table.now c.args.a c.args.bs.now r).differ,
)
