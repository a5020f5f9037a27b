use Rattle.std.proofs.Common.{◌≡◌, ◌++◌, take}
use Rattle.cf_kron.specs.Transposed.{returned_exits}
use Rattle.cf_kron.proofs.transposition.push_returned.Given as goal

abbrev pub invariant-loop-i : goal.invariant-loop-i
invariant-loop-i l = l.rows ≡ record { rows = l.fn.rows.rows; begun = l.fn.rows.begun ++ returned_exits l.returns (take l.i l.exits) }
