use Rattle.cf_order.specs.Sound.{Sound, Keeps}
use Rattle.cf_order.proofs.Work.{work}
use Rattle.cf_order.proofs.order.climb.Given as goal

pub record Climbing (s k : Type 0) : Type 0 where
  pub sound : s
  pub keeps : k

abbrev pub invariant-loop-frame : goal.invariant-loop-frame
invariant-loop-frame l = Climbing (Sound l.rows l.walk) (Keeps l.initial.walk l.walk)

abbrev pub decreases-loop-frame : goal.decreases-loop-frame
decreases-loop-frame l = work l.rows l.walk
