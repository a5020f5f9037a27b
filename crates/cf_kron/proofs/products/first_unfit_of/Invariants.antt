use Rattle.std.proofs.Common.{take}
use Rattle.std.specs.Prelude.{All}
use Rattle.cf_model.specs.Values.{Fits}
use Rattle.cf_kron.specs.Products.{scaled}
use Rattle.cf_kron.proofs.products.first_unfit_of.Given as goal

abbrev pub invariant-loop-j : goal.invariant-loop-j
invariant-loop-j l = All Fits (scaled l.fn.x (take l.j l.values))
