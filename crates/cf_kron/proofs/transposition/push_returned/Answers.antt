use Rattle.std.proofs.Common.{ℕ, get_or}
use Rattle.cf_pair.proofs.Pushing.{begun_more}
use Rattle.cf_kron.proofs.transposition.push_returned.Goals as goal

pub loop-i-preserved : goal.loop-i-preserved
loop-i-preserved c =
    begun_more (λ (e : ℕ). get_or c.args.returns.now e 0) c.args.exits.now c.loop-i.i 0 c.args.rows.now c.loop-i.rows c.push_label.new.self c.loop-i-test.true c.loop-i.invariant c.in_ok-push_label.ensures.pushed
