use Rattle.cf_pair.specs.Products.{returned2}
use Rattle.cf_pair.proofs.Pushing.{begun_more}
use Rattle.cf_pair.proofs.pairing.push_pairs.Goals as goal

pub loop-i-preserved : goal.loop-i-preserved
loop-i-preserved c = begun_more (returned2 c.args.left.now c.args.right.now) c.args.pairs.now c.loop-i.i (0, 0) c.args.rows.now c.loop-i.rows c.push_label.new.self c.loop-i-test.true c.loop-i.invariant c.in_ok-push_label.ensures.pushed
