use Rattle.std.proofs.Common.{arith}
use Rattle.cf_table.proofs.Numbered.{stops, numbered_more}
use Rattle.cf_table.proofs.goodness.numbered_on.Goals as goal

pub returns-then-exit-next : goal.returns-then-exit-next
returns-then-exit-next c = stops c.args.before c.args.list.now c.loop-exit.exit-index c.loop-exit-test.true (omega (arith, c.if-exit-next.true, c.loop-exit.invariant.given_out))

pub loop-exit-preserved : goal.loop-exit-preserved
loop-exit-preserved c = numbered_more c.args.before c.args.list.now c.loop-exit.exit-index c.loop-exit.next c.max-next.result c.loop-exit-test.true c.loop-exit.invariant (omega (arith, c.if-exit-next.false)) (omega (arith, c.type_inv.list c.loop-exit.exit-index)) c.max-next.ensures
