use Rattle.std.proofs.Common.{◌≡◌, suc, max, get_or, arith}
use Rattle.cf_build.proofs.Numbers.{grows_more}
use Rattle.cf_build.proofs.are_numbered.Goals as goal

pub loop-i-preserved : goal.loop-i-preserved
loop-i-preserved c =
    let x = get_or c.args.classes.now c.loop-i.i 0 in
    let now : c.max-next.result ≡ max c.loop-i.next (suc x) = omega (arith, c.max-next.ensures) in
    let w = grows_more c.args.classes.now c.loop-i.i c.loop-i.next c.max-next.result c.loop-i-test.true c.loop-i.invariant.0 c.loop-i.invariant.1 c.if-classes-i.false now in
    (w.0, w.1, omega (arith, now, c.loop-i.invariant.2, c.if-classes-i.false))
