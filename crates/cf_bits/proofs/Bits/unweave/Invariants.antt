use Rattle.std.proofs.Common.{◌≡◌, take}
use Rattle.cf_model.specs.Assignments.{bits, number_of, row_of, column_of}
use Rattle.cf_bits.proofs.Bits.unweave.Given as goal

abbrev pub invariant-loop-i : goal.invariant-loop-i
invariant-loop-i l = record {
  row : l.row ≡ number_of (take l.i (row_of (bits l.self)));
  column : l.column ≡ number_of (take l.i (column_of (bits l.self)));
}
