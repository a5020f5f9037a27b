use Rattle.cf_pair.specs.Products.{returned3}
use Rattle.cf_pair.proofs.Pushing.{begun_more}
use Rattle.cf_pair.proofs.tripling.push_triples.Goals as goal

pub loop-i-preserved : goal.loop-i-preserved
loop-i-preserved c = begun_more (returned3 c.args.left.now c.args.middle.now c.args.right.now) c.args.triples.now c.loop-i.i (0, 0, 0) c.args.rows.now c.loop-i.rows c.push_label.new.self c.loop-i-test.true c.loop-i.invariant c.in_ok-push_label.ensures.pushed
