use Rattle.cf_hierarchy.proofs.Growth.{level_goes}
use Rattle.cf_hierarchy.proofs.spread.copies_of.Goals as goal

pub loop-i-preserved : goal.loop-i-preserved
loop-i-preserved c = let e = c.in_ok-spread_one.ensures in
    level_goes c.args.blocks.now c.loop-i.spread.copies c.loop-i.spread.firsts c.loop-i.spread.end
    c.loop-i.i _ _ _ _ _ c.requires.blocks c.loop-i.invariant c.loop-i-test.true
    c.in_ok-spread_one.ensures.firsts c.in_ok-spread_one.ensures.copies
    c.in_ok-spread_one.ensures.end
