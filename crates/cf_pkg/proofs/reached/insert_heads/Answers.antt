use Rattle.std.proofs.Common.{ap, ◌∙◌, inl, inr}
use Rattle.cf_pkg.proofs.Sizing.{head_entered}
use Rattle.cf_pkg.proofs.reached.insert_heads.Goals as goal
use Rattle.cf_pkg.proofs.reached.insert_heads.Goals.{then-head-level+in_ok-insert, else-head-level}

pub loop-head-preserved : goal.loop-head-preserved
loop-head-preserved c =
    head_entered c.args.level c.args.heads.now c.loop-head.head-index (record { level = 0; at = 0 }) c.args.places.now.keys c.loop-head.places.keys c.if-head-level.places.keys c.loop-head-test.true c.loop-head.invariant
    (elim c.if-head-level.branch [
      | then-head-level+in_ok-insert w ↦ inl (w.if-head-level.true, ap (λ (v : _). v.keys) w.places-is ∙ w.in_ok-insert.ensures.keys)
      | else-head-level w ↦ inr (w.if-head-level.false, ap (λ (v : _). v.keys) w.places-is)
    ])
