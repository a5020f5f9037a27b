use Rattle.cf_pair.specs.Products.{met, returned2}
use Rattle.cf_pair.proofs.Pushing.{begun_next}
use Rattle.cf_pair.proofs.pairing.push_met.Goals as goal

pub loop-exit-preserved : goal.loop-exit-preserved
loop-exit-preserved c = begun_next (returned2 c.args.left.now c.args.right.now) (met c.args.plain.meeting) c.loop-exit.exit c.pair-met.result c.args.rows.now c.loop-exit.rows c.push_label.new.self c.pair-met.ensures c.loop-exit.invariant c.in_ok-push_label.ensures.pushed
