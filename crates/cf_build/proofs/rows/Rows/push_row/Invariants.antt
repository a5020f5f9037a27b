use Rattle.std.proofs.Common.{◌≡◌, take}
use Rattle.cf_build.proofs.rows.Rows.push_row.Given as goal

abbrev pub invariant-loop-label : goal.invariant-loop-label
invariant-loop-label g l = l.self ≡ record { rows = l.fn.self.rows; begun = take l.label-index l.labels }
