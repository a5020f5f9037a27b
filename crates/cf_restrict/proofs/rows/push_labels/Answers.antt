use Rattle.std.proofs.Common.{take, get_or, ◌+◌}
use Rattle.std.proofs.lemmas.List.{take_more}
use Rattle.cf_pair.proofs.Pushing.{begun_push}
use Rattle.cf_restrict.proofs.rows.push_labels.Goals as goal

pub loop-i-preserved : goal.loop-i-preserved
loop-i-preserved c =
    let xs = c.args.labels.now in
    let i = c.loop-i.i in
    begun_push c.args.rows.now c.loop-i.rows c.push_label.new.self (take i xs) (take (i + 1) xs) (get_or xs i 0) c.loop-i.invariant (take_more xs i 0 c.loop-i-test.true) c.in_ok-push_label.ensures.pushed
