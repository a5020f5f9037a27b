use Rattle.std.proofs.Common.{◌≡◌, map, take}
use Rattle.cf_order.proofs.walk.signals_of.Given as goal

abbrev pub invariant-loop-frame : goal.invariant-loop-frame
invariant-loop-frame l = l.all ≡ map (λ f. f.signal) (take l.frame-index l.frames)
