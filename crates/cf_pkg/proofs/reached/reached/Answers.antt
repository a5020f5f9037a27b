use Rattle.std.proofs.Common.{refl, arith}
use Rattle.cf_pkg.proofs.Sizing.{nothing_above, counting_more}
use Rattle.cf_pkg.proofs.reached.reached.Goals as goal

pub loop-level-init : goal.loop-level-init
loop-level-init c = record {
  long = refl;
  done = λ k lo hi. absurd (omega (arith, lo, hi));
  lists = nothing_above c.args.table.now c.law.ensures.good c.law.ensures.eight c.args.heads.now c.requires c.new-above.result.keys c.new-above.ensures.empty;
}

pub loop-level-preserved : goal.loop-level-preserved
loop-level-preserved c =
    counting_more c.args.table.now c.law.ensures.good c.args.heads.now c.requires c.loop-level.level _ c.len.result c.loop-level.counts c.loop-level.above.keys c.in_ok-here.here.keys
    (omega (arith, c.loop-level-test.true)) (omega (arith, c.loop-level.auto.level)) c.loop-level.invariant c.in_ok-here.ensures c.len.ensures.len
