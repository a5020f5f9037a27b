use Rattle.std.proofs.Common.{◌≡◌, ◌++◌, take}
use Rattle.cf_restrict.proofs.rows.push_labels.Given as goal

abbrev pub invariant-loop-i : goal.invariant-loop-i
invariant-loop-i l = l.rows ≡ record { rows = l.fn.rows.rows; begun = l.fn.rows.begun ++ take l.i l.labels }
