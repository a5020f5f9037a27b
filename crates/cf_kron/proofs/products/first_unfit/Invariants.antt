use Rattle.std.proofs.Common.{take}
use Rattle.cf_kron.specs.Products.{AllFit}
use Rattle.cf_kron.proofs.products.first_unfit.Given as goal

abbrev pub invariant-loop-i : goal.invariant-loop-i
invariant-loop-i l = AllFit (take l.i l.left) l.right
