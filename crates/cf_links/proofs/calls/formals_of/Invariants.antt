use Rattle.std.proofs.Common.{take, map}
use Rattle.cf_links.specs.Directories.{HaveSame}
use Rattle.cf_links.proofs.calls.formals_of.Given as goal

abbrev pub invariant-loop-pin : goal.invariant-loop-pin
invariant-loop-pin l = HaveSame l.book (take l.pin-index (map (λ p. p.formal) l.pin-items))
