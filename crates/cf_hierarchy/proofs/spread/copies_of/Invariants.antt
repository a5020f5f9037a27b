use Rattle.cf_hierarchy.proofs.Growth.{Level, Levelled}
use Rattle.cf_hierarchy.proofs.spread.copies_of.Given as goal

abbrev pub invariant-loop-level : goal.invariant-loop-level
invariant-loop-level l = Level l.blocks l.spread.copies l.spread.firsts l.spread.end l.level

abbrev pub invariant-loop-i : goal.invariant-loop-i
invariant-loop-i l = Levelled l.blocks l.spread.copies l.spread.firsts l.spread.end l.i l.upto
    l.level
