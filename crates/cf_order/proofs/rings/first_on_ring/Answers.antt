use Rattle.std.proofs.Common.{◌≡◌, Bool, true, false, ℕ, arith, ◌∙◌, sym, below_more}
use Rattle.std.proofs.lemmas.Bool.{false≢true}
use Rattle.cf_order.specs.Rings.{IsOnRing}
use Rattle.cf_order.proofs.rings.first_on_ring.Goals as goal

pub loop-s-preserved : goal.loop-s-preserved
loop-s-preserved c =
    below_more (λ (r : ℕ). IsOnRing c.args.rows.now r → ⊥) c.loop-s.s c.loop-s.invariant
    (λ on. false≢true (sym c.if-branch.false ∙ c.in_ok-is_on_ring.ensures.1 on))

pub returns : goal.returns
returns c s h = c.loop-s.invariant s (omega arith)
