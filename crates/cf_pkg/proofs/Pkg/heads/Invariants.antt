use Rattle.std.proofs.Common.{take}
use Rattle.cf_pkg.proofs.Heading.{Headed}
use Rattle.cf_pkg.proofs.Pkg.heads.Given as goal

abbrev pub invariant-loop-f : goal.invariant-loop-f
invariant-loop-f l = Headed l.self (take l.f-index l.fs) l.heads.items
