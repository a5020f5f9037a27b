use Rattle.std.proofs.Common.{take, ◌≡◌, length}
use Rattle.cf_model.proofs.terms.Term.+same.Given as goal

abbrev pub invariant-loop-i : goal.invariant-loop-i
invariant-loop-i l = (length l.ss ≡ length l.ts) × (take l.i l.ss ≡ take l.i l.ts)
