use Rattle.std.proofs.Common.{◌≡◌, take}
use Rattle.cf_flat.proofs.copies.cells_of.Given as goal

abbrev pub invariant-loop-cell : goal.invariant-loop-cell
invariant-loop-cell l = l.copy ≡ take l.cell-index l.cells
